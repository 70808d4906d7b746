use Rattle.std.proofs.Common.{Some, None, ◌<◌, ◌^◌, length, map, refl, arith}
use Rattle.std.proofs.lemmas.Bool.{false≢true}
use Rattle.std.proofs.lemmas.List.{map-append, length-map}
use Rattle.cd_hints.specs.Records.{record_parts}
use Rattle.cd_record.proofs.Histories.{StandsFor_push}
use Rattle.cd_record.proofs.Tallying.{sound_room, sound_push, sound_within}
use Rattle.cd_record.proofs.cutter.Cutter.push.Goals as goal

pub with-tally-requires-clause-room : goal.with-tally-requires-clause-room
with-tally-requires-clause-room c =
    let recs = c.self.inside.run.recs in
    let short : length (map record_parts recs.items) < 2 ^ 63 = rw length-map (omega (arith, recs.ok.0, recs.ok.1, recs.small)) in
    sound_room _ _ _ _ _ c.self.invariant (rw (← c.self.view_is) at c.requires.alone) short

pub invariant_of-self-then-is_within : goal.invariant_of-self-then-is_within
invariant_of-self-then-is_within c =
    let within = rw c.with-tally.ensures at (c.if-is_within.ensures.0 refl) in
    rw (c.in_default.ensures.ok.0, c.in_default.ensures.ok.1, c.with-tally.ensures, map-append)
    (sound_push _ _ _ _ _ c.self.invariant c.requires.kinds within)

pub returns-then-is_within-clause-pushes : goal.returns-then-is_within-clause-pushes
returns-then-is_within-clause-pushes c =
    let within = rw c.with-tally.ensures at (c.if-is_within.ensures.0 refl) in
    rw (← c.self.view_is, c.in_default.ensures.ok.0, map-append) (record {
      admissible = (sound_push _ _ _ _ _ c.self.invariant c.requires.kinds within).admissible;
      present = refl;
    })

pub returns-in-Ok-clause-pushes : goal.returns-in-Ok-clause-pushes
returns-in-Ok-clause-pushes c =
    rw (← c.self.view_is, c.replace-run.ensures.after, c.in-Ok.ensures.recs, c.into_block.ensures, c.replace-run.ensures.value, c.self.invariant.counted) (record {
      not_admissible = λ h. false≢true (c.if-is_within.ensures.1 (rw c.with-tally.ensures ((sound_within _ _ _ _ _ c.self.invariant).0 h)));
      given_run = refl;
      present = refl;
    })

pub returns-then-is_within-clause-history : goal.returns-then-is_within-clause-history
returns-then-is_within-clause-history c =
    λ pushed runs before. StandsFor_push _ _ _ None pushed runs c.requires.alone (returns-then-is_within-clause-pushes c) before

pub returns-in-Ok-clause-history : goal.returns-in-Ok-clause-history
returns-in-Ok-clause-history c =
    λ pushed runs before. StandsFor_push _ _ _ (Some c.into_block.result) pushed runs c.requires.alone (returns-in-Ok-clause-pushes c) before
