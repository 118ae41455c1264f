-- 01, 'Which places take which form': what each case of the code's answer enums says, in 01's words and numbers (those of wide records: wide_table).
use Rattle.std.specs.Prelude.{◌≡◌, refl, [], ◌∷◌, map, Ok, Err}
use Rattle.datatypes.specs.declared.Link.TheVariants.{Left}
use Rattle.datatypes.specs.declared.Refusal.TheVariants as refusal
use Rattle.datatypes.specs.declared.WriterAnswer.TheVariants as writer
use Rattle.datatypes.specs.declared.ReaderAnswer.TheVariants as reader
use Rattle.datatypes.specs.Refusals.{number_of}
use Rattle.spec.specs.Calls.{ok, go, absent, wait, found, next, more, done, refused, accepts, writer_says, reader_says}

pub record Answers : Type 0 where
  pub accepted : accepts (Ok tt) ≡ ok
  pub acceptance_refused : accepts (Err refusal.TooFewFree) ≡ refused 11
  pub more : writer_says (writer.More (Left 3) 4) ≡ more (Left 3) 4
  pub done : writer_says (writer.Done (Left 3) 4) ≡ done (Left 3) 4
  pub wait : writer_says writer.Wait ≡ wait
  pub writer_refused : writer_says (writer.Refused refusal.NodeMissing) ≡ refused 12
  pub go : reader_says reader.Go ≡ go
  pub found : reader_says (reader.Found 30) ≡ found 30
  pub next : reader_says (reader.Next 3 30) ≡ next 3 30
  pub absent : reader_says reader.Absent ≡ absent
  pub numbers : map number_of
      (refusal.WrongLength ∷ refusal.OutOfRange ∷ refusal.SlotTooHigh ∷ refusal.SlotReading ∷ refusal.SlotNotReading ∷ refusal.WriteInHand ∷ refusal.NoWriteInHand
      ∷ refusal.KeyNotHeld ∷ refusal.IndexFull ∷ refusal.TooFewFree ∷ refusal.NodeMissing ∷ refusal.ListWrong ∷ refusal.IndexNotEmpty ∷ [])
      ≡ 1 ∷ 2 ∷ 3 ∷ 4 ∷ 5 ∷ 6 ∷ 7 ∷ 9 ∷ 10 ∷ 11 ∷ 12 ∷ 18 ∷ 19 ∷ []
  pub reader_refused : reader_says (reader.Refused refusal.SlotNotReading) ≡ refused 5

pub answers : Answers
answers =
    record {
      accepted = refl;
      acceptance_refused = refl;
      more = refl;
      done = refl;
      wait = refl;
      writer_refused = refl;
      go = refl;
      found = refl;
      next = refl;
      absent = refl;
      numbers = refl;
      reader_refused = refl;
    }
