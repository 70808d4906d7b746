-- What the matcher of a whole list keeps stays true.
use Rattle.std.proofs.Common.{◌≡◌, ℕ, ◌+◌, ◌<◌, List, [], ◌∷◌, ◌++◌, length, take, Option, None, ap, sym, ◌∙◌, subst, max, Result, Ok, Err}
use Rattle.std.specs.List.{remove, fold, sum_by}
use Rattle.std.specs.Prelude.{OnOk, false}
use Rattle.std.proofs.lemmas.List.{length_push}
use Rattle.cd_pairing.specs.declared.keyed.Side.TheVariants.{Query, Response, Neither}
use Rattle.cd_pairing.specs.declared.keyed.Windows.{Windows}
use Rattle.cd_pairing.specs.declared.stamp.Stamp.{Stamp}
use Rattle.cd_pairing.specs.declared.whole_list.Matcher.{Matcher}
use Rattle.cd_pairing.specs.Events.{EventView, event_at}
use Rattle.cd_pairing.specs.Matching.{IsMatching}
use Rattle.cd_pairing.specs.Pairing.{are_compatible}
use Rattle.cd_pairing.specs.Settling.{is_neither}
use Rattle.cd_pairing.specs.Waiting.{stamp_at, stamp_under, IsFirstFit, NothingFits, DropsClosed, IsWaiting, ArePaired, HasPaired}
use Rattle.cd_pairing.proofs.Joining.{joined}
use Rattle.cd_pairing.proofs.Meeting.{Meets, meets, met_joined, met_alone, neither_alone, neither_waits}

both_ok : {T E : Type 0} (r : Result T E) {P Q R : Type 0} → OnOk r P → OnOk r Q → (P → Q → R) → OnOk r R
both_ok (Ok x) p q f = f p q
both_ok (Err e) p q f = tt

-- the next event, what waits for it once what has closed is dropped, and what was paired before
record Met (windows : Windows) (events : List EventView) (p : List (Option ℕ)) (mid own : List Stamp) (now : Stamp) : Type 0 where
  index : length p ≡ now.index
  meeting : Meets windows events p mid now
  paired : ArePaired windows events p (event_at events (length p)).side mid own

met : (windows : Windows) (events : List EventView) (p : List (Option ℕ)) (old mid own : List Stamp) (now : Stamp) → now ≡ stamp_at events (length p) → length p < length events → is_neither (event_at events now.index).side ≡ false →
    ArePaired windows events p (event_at events now.index).side old own → DropsClosed windows events old mid now → Met windows events p mid own now
met windows events p old mid own now here room some A D =
    let e : length p ≡ now.index = sym (ap (λ (s : Stamp). s.index) here) in
    let B : ArePaired windows events p (event_at events (length p)).side old own = subst (λ (x : ℕ). ArePaired windows events p (event_at events x).side old own) (sym e) A in
    let M : Meets windows events p mid now = meets windows events p old mid now here room (ap (λ (x : ℕ). is_neither (event_at events x).side) e ∙ some) B.others_wait D in
    record { index = e; meeting = M; paired = record { pairing = B.pairing; others_wait = M.waits; own_wait = B.own_wait } }

-- after a join
pub paired_joined : {T E : Type 0} (r : Result T E) (windows : Windows) (events : List EventView) (p q : List (Option ℕ)) (old mid new own : List Stamp) (now : Stamp) (k : ℕ) →
    now ≡ stamp_at events (length p) → length p < length events → is_neither (event_at events now.index).side ≡ false → ArePaired windows events p (event_at events now.index).side old own →
    DropsClosed windows events old mid now → IsFirstFit windows events mid now k → OnOk r (q ≡ joined p (stamp_under mid k).index now.index) → OnOk r (new ≡ remove mid k) →
    OnOk r (ArePaired windows events q (event_at events now.index).side new own)
paired_joined r windows events p q old mid new own now k here room some A D F a b =
    let m = met windows events p old mid own now here room some A D in
    let index : ℕ = (stamp_under mid k).index in
    let J = subst (λ (x : ℕ). ArePaired windows events (joined p index x) (event_at events x).side (remove mid k) own) m.index (met_joined windows events p mid own now k m.meeting F m.paired) in
    both_ok r a b (λ x y.
    subst (λ (t : List Stamp). ArePaired windows events q (event_at events now.index).side t own) (sym y)
    (subst (λ (t : List (Option ℕ)). ArePaired windows events t (event_at events now.index).side (remove mid k) own) (sym x) J))

-- after an event is left alone
pub paired_alone : {T E : Type 0} (r : Result T E) (windows : Windows) (events : List EventView) (p q : List (Option ℕ)) (old mid own new : List Stamp) (now : Stamp) →
    now ≡ stamp_at events (length p) → length p < length events → is_neither (event_at events now.index).side ≡ false → ArePaired windows events p (event_at events now.index).side old own →
    DropsClosed windows events old mid now → NothingFits windows events mid now → OnOk r (q ≡ p ++ None ∷ []) → OnOk r (new ≡ own ++ now ∷ []) →
    OnOk r (ArePaired windows events q (event_at events now.index).side mid new)
paired_alone r windows events p q old mid own new now here room some A D F a b =
    let m = met windows events p old mid own now here room some A D in
    let J = subst (λ (x : ℕ). ArePaired windows events (p ++ None ∷ []) (event_at events x).side mid (own ++ now ∷ [])) m.index (met_alone windows events p mid own now m.meeting F m.paired) in
    both_ok r a b (λ x y.
    subst (λ (t : List Stamp). ArePaired windows events q (event_at events now.index).side mid t) (sym y)
    (subst (λ (t : List (Option ℕ)). ArePaired windows events t (event_at events now.index).side mid (own ++ now ∷ [])) (sym x) J))

neither_query : Neither ≡ Query → ⊥
neither_query e = cc

neither_response : Neither ≡ Response → ⊥
neither_response e = cc

-- after an event that is neither
pub paired_neither : (windows : Windows) (events : List EventView) (old m : Matcher) (now : Stamp) → HasPaired windows events old → now ≡ stamp_at events (length old.partners.items) → (event_at events now.index).side ≡ Neither →
    m.partners.items ≡ old.partners.items ++ None ∷ [] → m.queries.items ≡ old.queries.items → m.responses.items ≡ old.responses.items → m.clock ≡ now.clock → m.weight_sum ≡ now.weight_sum → HasPaired windows events m
paired_neither windows events old m now H here is a b c d e =
    let p : List (Option ℕ) = old.partners.items in
    let q : List (Option ℕ) = m.partners.items in
    let index : length p ≡ now.index = sym (ap (λ (s : Stamp). s.index) here) in
    let side : (event_at events (length p)).side ≡ Neither = ap (λ (x : ℕ). (event_at events x).side) index ∙ is in
    let long : length p + 1 ≡ length q = sym (ap length a ∙ length_push p None) in
    record {
      pairing = subst (λ (t : List (Option ℕ)). IsMatching (are_compatible windows events) (length t) t) (sym a) (neither_alone windows events p side H.pairing);
      queries = subst (λ (t : List (Option ℕ)). IsWaiting windows events t Query m.queries.items) (sym a)
          (subst (λ (t : List Stamp). IsWaiting windows events (p ++ None ∷ []) Query t) (sym b) (neither_waits windows events p Query old.queries.items side (λ x. neither_query x) H.queries));
      responses = subst (λ (t : List (Option ℕ)). IsWaiting windows events t Response m.responses.items) (sym a)
          (subst (λ (t : List Stamp). IsWaiting windows events (p ++ None ∷ []) Response t) (sym c) (neither_waits windows events p Response old.responses.items side (λ x. neither_response x) H.responses));
      latest = d ∙ ap (λ (x : Stamp). x.clock) here ∙ ap (λ (x : ℕ). fold (λ latest e. max latest e.time) 0 (take x events)) long;
      total = e ∙ ap (λ (x : Stamp). x.weight_sum) here ∙ ap (λ (x : ℕ). sum_by (λ e. e.weight) (take x events)) long;
    }
