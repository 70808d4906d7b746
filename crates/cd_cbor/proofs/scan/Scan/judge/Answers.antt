-- Each turn of the loop passes what is due.
use Rattle.std.proofs.Common.{◌≡◌, ◌<◌, ◌∙◌, true, false, Ok, length, refl, ap, sym, subst, arith}
use Rattle.std.proofs.lemmas.List.Elements.{All-from_get_or}
use Rattle.cd_cbor.specs.Reading.{item_at}
use Rattle.cd_cbor.specs.Scanning.{Passes, LiesBefore, TellsFault, Judges}
use Rattle.cd_cbor.specs.declared.scan.Judged.TheVariants as judged
use Rattle.cd_cbor.specs.declared.fault.Why.TheVariants as why
use Rattle.cd_cbor.proofs.Marks.{marked_on, whole_told, fault_told, fault_before}
use Rattle.cd_cbor.proofs.scan.Scan.judge.Goals as goal

pub heads-preserved : goal.heads-preserved
heads-preserved c =
    let p : Passes c.heads.self c.pass.new.self c.args.item.now (Ok false) = subst (λ b. Passes c.heads.self c.pass.new.self c.args.item.now (Ok b)) c.if-whole.false c.in-Ok.ensures in
    record {
      stands = λ start h. marked_on c.heads.self c.pass.new.self start c.args.item.now (c.heads.invariant.stands start h) p;
      within = p.4;
      depth = p.5 ∙ c.heads.invariant.depth;
    }

pub fault_judged-requires : goal.fault_judged-requires
fault_judged-requires c =
    let at : c.self-in-heads.inside.at ≡ c.pass.new.self.at = ap (λ m. m.at) c.self-in-heads.view_is in
    subst (λ n. LiesBefore (length c.args.item.now) n c.in-Err.fault) (sym at)
    (fault_before c.heads.self c.pass.new.self c.args.item.now (length c.args.item.now) c.in-Err.fault refl c.in-Err.ensures)

pub returns-then-whole-clause-history : goal.returns-then-whole-clause-history
returns-then-whole-clause-history c = λ start before more is h.
    let at : c.self-in-heads.inside.at ≡ c.pass.new.self.at = ap (λ m. m.at) c.self-in-heads.view_is in
    let all = All-from_get_or (λ byte. byte < 256) c.args.item.now 0 (λ i within. omega (arith, c.type_inv.item i)) in
    let p : Passes c.heads.self c.pass.new.self c.args.item.now (Ok true) = subst (λ b. Passes c.heads.self c.pass.new.self c.args.item.now (Ok b)) c.if-whole.true c.in-Ok.ensures in
    let told = whole_told c.args.self.now c.heads.self c.pass.new.self c.args.item.now all c.heads.invariant.stands c.heads.invariant.depth p start before more is h in
    (told.0, subst (λ n. Judges (judged.Whole n) (item_at c.args.self.now.depth c.args.item.now why.Break start)) (sym at) told.1)

pub returns-in-Err-clause-history : goal.returns-in-Err-clause-history
returns-in-Err-clause-history c = λ start before more is h.
    let at : c.self-in-heads.inside.at ≡ c.pass.new.self.at = ap (λ m. m.at) c.self-in-heads.view_is in
    let all = All-from_get_or (λ byte. byte < 256) c.args.item.now 0 (λ i within. omega (arith, c.type_inv.item i)) in
    let tells = subst (λ n. TellsFault c.in-Err.fault n c.fault_judged.result) at c.fault_judged.ensures in
    fault_told c.args.self.now c.heads.self c.pass.new.self c.args.item.now all c.heads.invariant.stands c.heads.invariant.depth c.in-Err.fault c.fault_judged.result c.in-Err.ensures tells start before more is h
