-- What a call from C tells of each answer, in numbers.
use Rattle.std.specs.Prelude.{ℕ, ◌≡◌, cond, Result, Ok, Err}
use Rattle.meaning.specs.declared.Refusal.{Refusal}
use Rattle.meaning.specs.Judge.{number_of}
use Rattle.cutting.specs.declared.Answer.{Answer}
use Rattle.texts.specs.declared.Reading.{Reading}
use Rattle.calls.specs.declared.told.Told.{Told}
use Rattle.calls.specs.declared.told.ToldCount.{ToldCount}
use Rattle.calls.specs.declared.told.Input.{Input}

-- the refusal's number and place, and nought twice; or nought twice, the number of groups or piles, and 1 exactly if the run is finished
unfoldable pub told : Result Answer Refusal → Told
told (Err refusal) = record { number = number_of refusal.row; place = refusal.place; count = 0; finished = 0 }
told (Ok answer) = record { number = 0; place = 0; count = answer.count; finished = cond answer.finished 1 0 }

-- the refusal, or how many links thinning kept, how many bytes a writer wrote
unfoldable pub told_count : Result ℕ Refusal → ToldCount
told_count (Err refusal) = record { number = number_of refusal.row; place = refusal.place; count = 0 }
told_count (Ok count) = record { number = 0; place = 0; count = count }

-- the refusal, or what the reader found
unfoldable pub told_reading : Result Reading Refusal → Input
told_reading (Err refusal) = record { number = number_of refusal.row; place = refusal.place; n = 0; k = 0; links = 0; cuts = 0 }
told_reading (Ok found) = record { number = 0; place = 0; n = found.n; k = found.k; links = found.links; cuts = found.cuts }

-- the call tells an answer that keeps the promise
pub record Telling {A B : Type 0} (tells : A → B) (promise : A → Type 0) (r : B) : Type 0 where
  pub answer : A
  pub kept_by : promise answer
  pub told_as : r ≡ tells answer
