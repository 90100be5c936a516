-- The call that narrows the floor: when it is refused, and what it comes to. Assumes nothing.
use Rattle.std.specs.Prelude.{ℕ, ◌≡◌, refl, ◌↔◌, []}
use Rattle.std.proofs.Common.{arith}
use Rattle.floor.specs.Jobs.{SizedJob}
use Rattle.floor.specs.Plans.{Plan}
use Rattle.floor.specs.Calls.{Board, empty, holding, narrows, refusal, made, refuse, slims, step, Narrowed}
use Rattle.floor.specs.Calls.Sound.{Sound}
use Rattle.floor.specs.Narrow.{Described, narrowed}
use Rattle.floor.proofs.Narrow.Result.{Slimmed, SameEnd, narrowed_slim, described_one}

-- BY 10, where no plan is held, and by nothing else
pub narrows_refused : (b : Board) (k : ℕ) → ((step b narrows).reply ≡ refusal k) ↔ ((b ≡ empty) × (k ≡ 10))
unfolding step refuse slims
narrows_refused empty k = (λ e. (refl, number e), λ e. rw e.1)
  where
    number : refusal 10 ≡ refusal k → k ≡ 10
    number e = cc
narrows_refused (holding o p) k =
    (λ e. let z : ◌≡◌ {A = ℕ} 0 1 = cc in absurd (omega arith), λ e. let z : ◌≡◌ {A = ℕ} 0 1 = two e.0 in absurd (omega arith))
  where
    two : holding o p ≡ empty → ◌≡◌ {A = ℕ} 0 1
    two e = cc

module _ (o : SizedJob) (p : Plan) (s : Sound o p) where
  -- WHAT IT COMES TO
  pub narrows_made : Narrowed o p (narrowed o p) × (step (holding o p) narrows ≡ slims (narrowed o p))
  unfolding step
  narrows_made =
      let x : Slimmed o p (narrowed o p) = narrowed_slim o p s in
      (record { described = x.described; joins = x.joins; sizes = x.sizes; width = x.width; none = x.none }, refl)

  -- THE DESCRIPTION HAS NO OTHER RESULT
  pub narrows_only : (n : ℕ) (i : SizedJob) (q : Plan) → Described n o p i q → step (holding o p) narrows ≡ record { board = holding i q; reply = made n; buffer = [] }
  unfolding step slims
  narrows_only n i q d =
      let e : SameEnd n (narrowed o p).turns i (narrowed o p).job q (narrowed o p).plan =
      described_one n (narrowed o p).turns o p i (narrowed o p).job q (narrowed o p).plan d (narrowed_slim o p s).described in
      rw (e.turns, e.job, e.plan)
