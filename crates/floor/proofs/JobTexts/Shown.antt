-- Some texts, read and written, computed under one claim each. Assumes nothing.
use Rattle.std.specs.Prelude.{ℕ, ◌≡◌, refl, List, [], ◌∷◌}
use Prim.Native.String.{String}
use Rattle.floor.specs.Lists.{any, same_numbers}
use Rattle.floor.specs.Quoted.{plain}
use Rattle.floor.specs.Jobs.{test2, entries, star_then, read_stars, size_pairs, sizes_in, read_sizes, read_rest, read_rooms, read_first, read_job, Reading, fails}
use Rattle.floor.specs.Jobs.{reads, SizedJob, sized_job, size_of, larger}
use Rattle.floor.specs.Fields.{read_field, rest_of, after_fields}
use Rattle.floor.specs.Texts.{digits, decimal}
use Rattle.floor.proofs.Examples.{p5, sized5, job_f}
use Rattle.floor.specs.JobTexts.{side_words, frame_words, side_word, vertex_word, contact_text, contacts_text, size_text, comma_behind, size_behind, room_text}
use Rattle.floor.specs.JobTexts.{rooms_text, job_text, blank, letter, skip, word, behind_word, next, digit, digits_on, number_of, place_of, kind_of_word, a_byte}
use Rattle.floor.specs.JobTexts.{or_else, vertex_of_word, says, nothing, room_number, colon, side, neighbour, comma, least_size, behind_contact, followed, contact}
use Rattle.floor.specs.JobTexts.{size_said, size_at, size_or, contacts, any_contacts, behind_number, room_line, longer, lines, uncommented, TextRead, wrong_line}
use Rattle.floor.specs.JobTexts.{a_job, behind_room, taken, read_lines, told_sizes, told_job, read_text}

-- F of document 01, as text
unfoldable pub text_f : String
text_f = "4: above N, left W, below 6, right 5\n5: above N, left 4, left 6, below 7, right E\n6: above 4, left W, below S, right 7, right 5\n7: above 5, left 6, below S, right E\n"

-- P5 with least sizes, as text
unfoldable pub text_sized5 : String
text_sized5 = "4: above N, left W, below S, right 5, at least 3 by 1\n5: above N, left 4, below S, right E\n"

-- what a job's bytes hold, as what a text comes to
unfoldable pub held : Reading SizedJob → TextRead
held (fails k) = a_job (sized_job [] [])
held (reads o) = a_job o

-- what a text comes to, written
unfoldable pub written : TextRead → List ℕ
written (wrong_line i x) = []
written (a_job o) = job_text o

-- F and sized P5 are read from their texts and written as them; blanks, comments, lines with nothing on them and sizes of 1 by 1 do not count
pub texts_read :
    (read_text (plain text_f) ≡ held (read_job job_f))
    × (written (read_text (plain text_f)) ≡ plain text_f)
    × (read_text (plain text_sized5) ≡ held (read_job sized5))
    × (written (read_text (plain text_sized5)) ≡ plain text_sized5)
    × (read_text (plain "# the cage\r\n\n  4 :above N,left W ,\tbelow  S, right E # one room") ≡ read_text (plain "4: above 0, left 1, below 2, right 003"))
    × (read_text (plain "4: above N,at\tleast 1 by 01 # a cell") ≡ read_text (plain "4: above N"))
    × (read_text (plain "4:\n") ≡ a_job (sized_job ([] ∷ []) []))
    × (read_text (plain "4: at least 3 by 2") ≡ a_job (sized_job ([] ∷ []) (record { wide = 3; tall = 2 } ∷ [])))
unfolding text_f text_sized5 held written contact_text contacts_text size_text comma_behind size_behind room_text rooms_text job_text side_word vertex_word job_f p5 sized5
    read_job read_first read_rooms read_rest read_stars star_then entries size_pairs sizes_in read_sizes test2 read_field rest_of after_fields any larger size_of
    same_numbers plain digits decimal side_words frame_words blank letter skip word behind_word next digit digits_on number_of place_of kind_of_word a_byte or_else
    vertex_of_word says nothing behind_contact followed contact size_said size_at size_or contacts any_contacts behind_number room_line longer lines uncommented
    behind_room taken read_lines told_sizes told_job read_text
texts_read = (refl, refl, refl, refl, refl, refl, refl, refl)

-- the first wrong line, and what should have stood there
pub texts_wrong :
    (read_text (plain "") ≡ wrong_line 1 (room_number 4))
    × (read_text (plain "# nothing\n") ≡ wrong_line 2 (room_number 4))
    × (read_text (plain "5: above N") ≡ wrong_line 1 (room_number 4))
    × (read_text (plain "4: above N\n\n4: above N") ≡ wrong_line 3 (room_number 5))
    × (read_text (plain "4 above N") ≡ wrong_line 1 colon)
    × (read_text (plain "4: over N") ≡ wrong_line 1 side)
    × (read_text (plain "4: above N,") ≡ wrong_line 1 side)
    × (read_text (plain "4: above, left W") ≡ wrong_line 1 neighbour)
    × (read_text (plain "4: above 256") ≡ wrong_line 1 neighbour)
    × (read_text (plain "4: above N left W") ≡ wrong_line 1 comma)
    × (read_text (plain "4: above N at least 3 by 2") ≡ wrong_line 1 comma)
    × (read_text (plain "4: above N, at most 3 by 2") ≡ wrong_line 1 least_size)
    × (read_text (plain "4: above N, at least 3") ≡ wrong_line 1 least_size)
    × (read_text (plain "4: above N, at least 3 by 256") ≡ wrong_line 1 least_size)
    × (read_text (plain "4: at least 3 by 2, above N") ≡ wrong_line 1 least_size)
unfolding test2 any larger same_numbers plain digits decimal side_words frame_words blank letter skip word behind_word next digit digits_on number_of place_of
    kind_of_word a_byte or_else vertex_of_word says nothing behind_contact followed contact size_said size_at size_or contacts any_contacts behind_number room_line
    longer lines uncommented behind_room taken read_lines told_sizes told_job read_text
texts_wrong = (refl, refl, refl, refl, refl, refl, refl, refl, refl, refl, refl, refl, refl, refl, refl)
