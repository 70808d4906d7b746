-- OPT records among others, and the settings that they hold.
use Rattle.std.proofs.Common.{◌≡◌, ◌≢◌, ℕ, ◌+◌, ◌*◌, ◌/◌, ◌%◌, ◌≤◌, ◌<◌, Bool, List, [], ◌∷◌, length, None, Some, refl, sym, ap, ◌∙◌, length-append, arith, true, false, inl, inr, nat_eq, cond}
use Rattle.std.specs.Prelude.{nat_le}
use Rattle.std.specs.List.{All, find, count_by}
use Rattle.std.proofs.lemmas.List.Elements.{All-nil, All-cons, All-head, All-tail, All-push}
use Rattle.std.proofs.lemmas.List.Sums.{sum_by-cons, sum_by-append, count_by-le-length}
use Rattle.std.proofs.lemmas.List.Folds.{find-append}
use Rattle.std.proofs.lemmas.Option.{none-some}
use Rattle.std.proofs.lemmas.Bool.{cases_Bool, eqb-true, eqb-false}
use Rattle.cd_name.specs.Names.{IsName, are_labels_and_root}
use Rattle.cd_message.specs.declared.message.Message.{Message}
use Rattle.cd_message.specs.declared.message.Rr.{Rr}
use Rattle.cd_message.specs.declared.message.TheConstants.{OPT}
use Rattle.cd_message.specs.Shapes.{shape_of}
use Rattle.cd_message.specs.Valid.{is_opt, ValidRecord, Valid}
use Rattle.cd_edns.specs.declared.opt_record.Opt.{Opt}
use Rattle.cd_edns.specs.Opts.{HasNoOpt, opt_of_record, record_of_opt, with_opt, OptsAreGivenBack}

-- the record is no OPT record
abbrev pub IsNoOpt : Rr → Type 0
IsNoOpt r = r.rtype ≢ OPT

-- the root is a name
pub root_is_name : IsName (0 ∷ [])
unfolding are_labels_and_root
root_is_name = (refl, omega arith)

-- among records with no OPT record none is found
pub find-none : (records : List Rr) → All IsNoOpt records → find is_opt records ≡ None
find-none [] all = refl
find-none (r ∷ rs) all =
    elim (cases_Bool (nat_eq r.rtype OPT)) [
      | inl opt ↦ absurd (All-head IsNoOpt r rs all (eqb-true r.rtype OPT opt))
      | inr other ↦ rw other (find-none rs (All-tail IsNoOpt r rs all))
    ]

-- records among which none is found have no OPT record
pub none_found : (records : List Rr) → find is_opt records ≡ None → All IsNoOpt records
none_found [] none = All-nil IsNoOpt
none_found (r ∷ rs) none =
    elim (cases_Bool (nat_eq r.rtype OPT)) [
      | inl opt ↦ absurd (none-some r (sym (rw opt at none)))
      | inr other ↦ All-cons IsNoOpt r rs (eqb-false r.rtype OPT other) (none_found rs (rw other at none))
    ]

-- records among which one is found have one
pub some_found : (records : List Rr) (r : Rr) → Some r ≡ find is_opt records → All IsNoOpt records → ⊥
some_found records r some all = none-some r (sym (some ∙ find-none records all))

-- a test that does not hold counts nothing
nothing_counted : (b : Bool) → b ≡ false → ◌≡◌ {A = ℕ} (cond b 1 0) 0
nothing_counted true h = absurd (cc h)
nothing_counted false h = refl

-- records with no OPT record have 0 of them
count_by-none : (records : List Rr) → All IsNoOpt records → count_by is_opt records ≡ 0
count_by-none [] all = refl
count_by-none (r ∷ rs) all =
    let others = count_by-none rs (All-tail IsNoOpt r rs all) in
    elim (cases_Bool (nat_eq r.rtype OPT)) [
      | inl opt ↦ absurd (All-head IsNoOpt r rs all (eqb-true r.rtype OPT opt))
      | inr other ↦ omega (arith, sum_by-cons (λ q. cond (is_opt q) 1 0) r rs, nothing_counted (is_opt r) other, others)
    ]

-- the OPT record of some settings is valid
opt_record_is_valid : (opt : Opt) → length opt.rdata ≤ 65535 → ValidRecord (record_of_opt opt)
unfolding shape_of
opt_record_is_valid opt short = record { owner_is_name = root_is_name; rdata_fits = short; rdata_keeps_shape = tt; opt_owner_is_root = λ _. refl }

-- a valid message with room for an OPT record stays valid
pub with_opt_is_valid : (message : Message) (opt : Opt) → HasNoOpt message → Valid message → length message.additional < 65535 → length opt.rdata ≤ 65535 → Valid (with_opt message opt)
with_opt_is_valid message opt none valid room short =
    record {
      names_are_names = valid.names_are_names;
      few_questions = valid.few_questions;
      answers = valid.answers;
      authority = valid.authority;
      additional = record {
        records_are_valid = All-push ValidRecord message.additional (record_of_opt opt) valid.additional.records_are_valid (opt_record_is_valid opt short);
        few_records = omega (arith, length-append message.additional (record_of_opt opt ∷ []));
        few_opts = omega (
          arith,
          sum_by-append (λ q. cond (is_opt q) 1 0) message.additional (record_of_opt opt ∷ []),
          count_by-none message.additional none,
          count_by-le-length is_opt (record_of_opt opt ∷ []),
        );
      };
    }

-- the top byte of a TTL
top_byte : (e v f : ℕ) → v < 256 → f < 65536 → (e * 16777216 + v * 65536 + f) / 16777216 ≡ e
top_byte e v f h k = omega arith

-- the byte after it
next_byte : (e v f : ℕ) → v < 256 → f < 65536 → (e * 16777216 + v * 65536 + f) / 65536 % 256 ≡ v
next_byte e v f h k = omega arith

-- the low half
low_half : (e v f : ℕ) → v < 256 → f < 65536 → (e * 16777216 + v * 65536 + f) % 65536 ≡ f
low_half e v f h k = omega arith

-- the flags of DO are small
flags_fit : (b : Bool) → cond b 32768 0 < 65536
flags_fit true = omega arith
flags_fit false = omega arith

-- DO is the top bit of the flags
top_bit : (b : Bool) → nat_le 32768 (cond b 32768 0) ≡ b
top_bit true = refl
top_bit false = refl

-- the settings of the OPT record of some settings
opt_of_record-record_of_opt : (opt : Opt) → opt.version < 256 → opt_of_record (record_of_opt opt) ≡ opt
opt_of_record-record_of_opt opt small =
    let flags : ℕ = cond opt.dnssec_ok 32768 0 in
    rw (
      top_byte opt.ext_rcode opt.version flags small (flags_fit opt.dnssec_ok),
      next_byte opt.ext_rcode opt.version flags small (flags_fit opt.dnssec_ok),
      low_half opt.ext_rcode opt.version flags small (flags_fit opt.dnssec_ok),
      top_bit opt.dnssec_ok,
    )
    refl

-- the law on settings that are put
pub opts_are_given_back : OptsAreGivenBack
opts_are_given_back message opt none _ small =
    rw (find-append is_opt message.additional (record_of_opt opt ∷ []), find-none message.additional none)
    (ap Some (opt_of_record-record_of_opt opt small))
