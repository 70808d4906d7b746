-- A list from which the OPT records were taken out has none.
use Rattle.std.proofs.Common.{◌≡◌, ◌≢◌, ℕ, Bool, true, false, List, [], ◌∷◌, nat_eq, inl, inr, subst}
use Rattle.std.specs.List.{All}
use Rattle.std.proofs.lemmas.Bool.{cases_Bool, eqb-false}
use Rattle.std.proofs.lemmas.List.Elements.{All-nil, All-cons}
use Rattle.cd_block.specs.declared.kept.KeptRr.{KeptRr}
use Rattle.cd_edns.specs.Opts.{HasNoOpt}
use Rattle.cd_message.specs.declared.message.Message.{Message}
use Rattle.cd_message.specs.declared.message.Rr.{Rr}
use Rattle.cd_message.specs.declared.message.TheConstants.{OPT}
use Rattle.cd_rebuild.specs.Messages.{records_of, record_of}

-- the record is no OPT record
abbrev IsNoOpt : Rr → Type 0
IsNoOpt r = r.rtype ≢ OPT

-- none is left
none_left : (records : List KeptRr) → All IsNoOpt (records_of true records)
none_left [] = All-nil IsNoOpt
none_left (r ∷ rs) = elim (cases_Bool (nat_eq r.rtype OPT)) [
  | inl opt ↦ rw opt (none_left rs)
  | inr other ↦ rw other (All-cons IsNoOpt (record_of r) (records_of true rs) (eqb-false r.rtype OPT other) (none_left rs))
]

-- a message whose additional records are such a list
pub has_none : (m : Message) (records : List KeptRr) (b : Bool) → b ≡ true → m.additional ≡ records_of b records → HasNoOpt m
has_none m records true is same = rw same (none_left records)
has_none m records false is same = absurd cc
