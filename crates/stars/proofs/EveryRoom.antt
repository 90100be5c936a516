-- A test of every room, by its number, is a test of every star in turn. Assumes nothing.
use Prim.Native.Nat.{ℕ, suc, ◌+◌, ◌-◌, ◌≤◌}
use mathlib.Core.Path.{◌≡◌, refl, sym, ◌∙◌}
use mathlib.Core.Bool.{Bool}
use mathlib.Core.List.{[], ◌∷◌, ◌++◌}
use native.Mathlib.Omega.{arith}
use borrow.Author.Tests.{le-leb}
use lib.ListN.{length, length-append}
use lib.Seq.{get_or-append_seam, append_snoc}
use Rattle.floor.specs.Lists.{all, up_from}
use Rattle.floor.specs.Jobs.{Star, Job, entry_ok, star_of, rooms, test4, test6}
use Rattle.stars.specs.Rooms.{all_from}
use Rattle.stars.specs.Held.{answers, star_answers}

-- the star behind so many others is that of the room whose number is 4 more
star_here : (full pre : Job) (s : Star) (j : Job) (u : ℕ) → full ≡ pre ++ (s ∷ j) → u ≡ 4 + length pre → star_of full u ≡ s
unfolding star_of
star_here full pre s j u e q =
    let h : 4 ≤ u = omega arith in
    let d : u - 4 ≡ length pre = omega arith in
    rw (le-leb 4 u h, d, e) (get_or-append_seam pre s j [])

-- a test of the rooms from u on, by their numbers, is the test of their stars in turn
rooms_from : (p : ℕ → Star → Bool) (full pre j : Job) (u : ℕ) → full ≡ pre ++ j → u ≡ 4 + length pre
    → all (λ v. p v (star_of full v)) (up_from u (length j)) ≡ all_from p u j
unfolding all up_from all_from
rooms_from p full pre [] u e q = refl
rooms_from p full pre (s ∷ j) u e q =
    let hd : star_of full u ≡ s = star_here full pre s j u e q in
    let e' : full ≡ (pre ++ (s ∷ [])) ++ j = e ∙ sym (append_snoc pre s j) in
    let q' : suc u ≡ 4 + length (pre ++ (s ∷ [])) = omega (arith, length-append pre (s ∷ [])) in
    rw (hd, rooms_from p full (pre ++ (s ∷ [])) j (suc u) e' q')

-- every room passes where every star does, with its room's number
pub every_room : (p : ℕ → Star → Bool) (j : Job) → all (λ v. p v (star_of j v)) (rooms j) ≡ all_from p 4 j
unfolding rooms
every_room p j = rooms_from p j [] j 4 refl refl

-- test 4, star by star
pub test4_stars : (j : Job) → test4 j ≡ all_from (λ u s. all (entry_ok (length j) u) s) 4 j
unfolding test4
test4_stars j = every_room (λ u s. all (entry_ok (length j) u) s) j

-- test 6, star by star
pub test6_stars : (j : Job) → test6 j ≡ all_from (star_answers j) 4 j
unfolding test6 star_answers answers
test6_stars j = every_room (star_answers j) j
