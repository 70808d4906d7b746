-- An array that is at its end at once has no value.
use Rattle.std.proofs.Common.{◌-◌, refl, sym, ◌∙◌}
use Rattle.cd_file.specs.Kinds.{filled_array_of}
use Rattle.cd_file.proofs.LinesRead.{not_filled, is_filled}
use Rattle.cd_file.proofs.reading.arrays.filled_array_of.Goals as goal

pub returns-in-None : goal.returns-in-None
unfolding filled_array_of
returns-in-None g c = λ item end is.
    let seen = c.in-None.ensures c.args.depth item end is in
    rw (c.shape-in-None.ensures, seen) refl

pub returns-in-Some-ended_at : goal.returns-in-Some-ended_at
unfolding filled_array_of
returns-in-Some-ended_at g c = λ item end is.
    let seen = c.in-Some.ensures c.args.depth item end is in
    let none =
    not_filled (c.args.depth - 1) c.args.bytes.now c.in-Some.left c.in-Some.next end seen.0 c.in-Some-ended_at._end seen.2 (sym c.ended_at.ensures ∙ c.in-Some-ended_at.is) in
    rw (c.shape.ensures, seen.1, none) refl

pub returns-in-None-ended_at : goal.returns-in-None-ended_at
unfolding filled_array_of
returns-in-None-ended_at g c = λ item end is.
    let seen = c.in-Some.ensures c.args.depth item end is in
    let all = is_filled (c.args.depth - 1) c.args.bytes.now c.in-Some.left c.in-Some.next end seen.0 seen.2 (sym c.ended_at.ensures ∙ c.in-None-ended_at.is) in
    rw (seen.1, all) (c.elements.ensures seen.0 end (rw c.saturating_sub.ensures seen.2))
