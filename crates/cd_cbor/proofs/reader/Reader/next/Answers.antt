-- Each step of the loop is a step of the history.
use Rattle.std.proofs.Common.{◌≡◌, ◌∙◌, ◌++◌, Ok, Err, ap, sym, subst}
use Rattle.cd_cbor.specs.Following.{Steps, Stops}
use Rattle.cd_cbor.specs.declared.event.Step.TheVariants as step
use Rattle.cd_cbor.specs.declared.fault.Why.TheVariants as why
use Rattle.cd_cbor.specs.declared.fault.CborFault.TheVariants as fault
use Rattle.cd_cbor.proofs.Histories.{stands_on, stands_told, stands_stopped}
use Rattle.cd_cbor.proofs.ToldItems.{says_again}
use Rattle.cd_cbor.proofs.reader.Reader.next.Goals as goal

pub steps-preserved : goal.steps-preserved
steps-preserved c =
    let done = subst (λ e. Steps c.steps.self c.step.new.self (Ok e)) c.in-Ok-None.field-0-is c.in-Ok-None.ensures in
    record {
      stands = λ fed given h. stands_on c.steps.self c.step.new.self fed given (c.steps.invariant.stands fed given h) done;
      count = done.6 ∙ c.steps.invariant.count;
    }

pub returns-in-Ok-Some-clause-history : goal.returns-in-Ok-Some-clause-history
returns-in-Ok-Some-clause-history c = λ fed given h.
    let done = subst (λ e. Steps c.steps.self c.step.new.self (Ok e)) c.in-Ok-Some.field-0-is c.in-Ok-Some.ensures in
    stands_told c.steps.self c.step.new.self fed given (c.steps.invariant.stands fed given h) c.in-Ok-Some.event done

pub returns-in-Ok-Some-clause-again : goal.returns-in-Ok-Some-clause-again
returns-in-Ok-Some-clause-again c = λ fed more given at reason s apart h.
    says_again c.step.new.self fed more given at reason (Ok (step.Event c.in-Ok-Some.event)) s apart (returns-in-Ok-Some-clause-history c (fed ++ more) given h)

pub returns-in-Err-Bad-default-End-clause-again : goal.returns-in-Err-Bad-default-End-clause-again
returns-in-Err-Bad-default-End-clause-again c = λ fed more given at reason s apart h.
    let place = c.in-Err-Bad-default-End.field-0-0 in
    let is : c.in-Err-Bad-default-End.field-0 ≡ fault.Bad place why.End = c.in-Err-Bad-default-End.field-0-is ∙ ap (λ w. fault.Bad place w) c.in-Err-Bad-default-End.field-0-1-is in
    let done = subst (λ e. Steps c.steps.self c.step.new.self (Err e)) is c.in-Err-Bad-default-End.ensures in
    let st = stands_stopped c.steps.self c.step.new.self (fed ++ more) given (c.steps.invariant.stands (fed ++ more) given h) place why.End done in
    says_again c.step.new.self fed more given at reason (Ok step.More) s apart (st.0, (c.step.new.self.at, st.1))

pub returns-in-Err-Bad : goal.returns-in-Err-Bad
returns-in-Err-Bad c =
    let done = subst (λ e. Steps c.steps.self c.step.new.self (Err e)) c.in-Err-Bad.field-0-is c.in-Err-Bad.ensures in
    let here : c.self.inside.at ≡ c.step.new.self.at = ap (λ r. r.at) c.self.view_is in
    record {
      history = λ fed given h.
          let st = stands_stopped c.steps.self c.step.new.self fed given (c.steps.invariant.stands fed given h) c.in-Err-Bad.field-0-0 c.in-Err-Bad.why done in
          (st.0, subst (λ n. Stops fed given n c.in-Err-Bad.why) (sym here) st.1);
      again = λ fed more given at reason s apart h.
          let st = stands_stopped c.steps.self c.step.new.self (fed ++ more) given (c.steps.invariant.stands (fed ++ more) given h) c.in-Err-Bad.field-0-0 c.in-Err-Bad.why done in
          says_again c.step.new.self fed more given at reason (Err (fault.Bad c.self.inside.at c.in-Err-Bad.why)) s apart (st.0, subst (λ n. Stops (fed ++ more) given n c.in-Err-Bad.why) (sym here) st.1);
      count = ap (λ r. r.fed_count) done.1 ∙ c.steps.invariant.count;
    }
