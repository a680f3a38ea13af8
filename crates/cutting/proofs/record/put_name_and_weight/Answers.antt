-- `cutting::record::put_name_and_weight` meets its contract. Assumes nothing.
use Rattle.std.proofs.Common.{◌≡◌, ◌/◌, ◌%◌, ◌^◌, ◌∙◌, arith}
use Rattle.cutting.specs.Record.{head_bytes}
use Rattle.meaning.proofs.Room.{fitted_all}
use Rattle.cutting.proofs.record.put_name_and_weight.Goals as goal

pub returns : goal.returns
returns c =
    let top : c.args.weight / 2 ^ 24 % 256 ≡ c.args.weight / 2 ^ 24 = omega arith in
    c.copy.ensures ∙ rw (c.to_be_bytes.ensures, top) (fitted_all c.args.space.now c.args.at (head_bytes c.args.pile c.args.weight) c.requires)
