-- What is settled stays.
use Rattle.std.proofs.Common.{◌≡◌, ℕ, ◌<◌, Bool, true, false, not, ◌||◌, List, ◌++◌, length, take, Option, Some, None, refl, ap, sym, ◌∙◌, subst, arith, inl, inr, length-append}
use Rattle.std.specs.Prelude.{is_some}
use Rattle.std.proofs.lemmas.Bool.{cases_lt, true≢false}
use Rattle.std.proofs.lemmas.List.{take_at}
use Rattle.cd_pairing.specs.declared.keyed.Side.{Side}
use Rattle.cd_pairing.specs.declared.keyed.Side.TheVariants.{Query, Response, Neither}
use Rattle.cd_pairing.specs.declared.keyed.Windows.{Windows}
use Rattle.cd_pairing.specs.Events.{EventView, event_at, are_opposite}
use Rattle.cd_pairing.specs.Matching.{partner}
use Rattle.cd_pairing.specs.Pairing.{StampedEvent, are_compatible, IsPairing}
use Rattle.cd_pairing.specs.Laws.{partner_below, pairs_below}
use Rattle.cd_pairing.specs.Settling.{is_window_open, is_settled, is_neither, AreHeavy, SettledKeepPartners, SettledStaySettled}
use Rattle.cd_pairing.proofs.Unique.{partner_within, unique}
use Rattle.cd_pairing.proofs.Growing.{stamped-append, kept}
use Rattle.cd_pairing.proofs.Keeping.{cut_at, below_less, below_more}
use Rattle.cd_pairing.proofs.OpenWindows.{compatible_parts, still_open, was_open}

-- the pairing of the first events is a cut of that of all
first_part : (windows : Windows) (events more : List EventView) (p q : List (Option ℕ)) → IsPairing windows events p → IsPairing windows (events ++ more) q → pairs_below (length events) q ≡ p
first_part windows events more p q P Q =
    let n : ℕ = length events in
    let front : take n (events ++ more) ≡ events = take_at events more n refl in
    let R : IsPairing windows events (pairs_below n q) =
    subst (λ (es : List EventView). IsPairing windows es (pairs_below n q)) front (kept windows (events ++ more) n q (omega (arith, length-append events more)) Q) in
    unique (are_compatible windows events) n (pairs_below n q) p R P

seen_from : (windows : Windows) (events more : List EventView) (p q : List (Option ℕ)) → IsPairing windows events p → IsPairing windows (events ++ more) q → (i : ℕ) → i < length events →
    partner p i ≡ partner_below (length events) (partner q i)
seen_from windows events more p q P Q i lt =
    ap (λ (t : List (Option ℕ)). partner t i) (sym (first_part windows events more p q P Q))
    ∙ cut_at (length events) q i (omega (arith, Q.total, length-append events more)) lt

not_neither : (a b : Side) → are_opposite a b ≡ true → is_neither a ≡ false
not_neither Query b h = refl
not_neither Response b h = refl
not_neither Neither Query h = sym h
not_neither Neither Response h = sym h
not_neither Neither Neither h = sym h

unsettled : (s a o : Bool) → s ≡ false → a ≡ false → o ≡ true → (s || a || not o) ≡ true → ⊥
unsettled s a o x y z h = let e : (s || a || not o) ≡ false = rw (x, y, z) in true≢false (sym h ∙ e)

settled_at : (windows : Windows) (events more : List EventView) (p q : List (Option ℕ)) → AreHeavy (events ++ more) → IsPairing windows events p → IsPairing windows (events ++ more) q →
    (i : ℕ) → i < length events → is_settled windows events p i ≡ true → (o : Option ℕ) → partner q i ≡ o → partner q i ≡ partner p i
settled_at windows events more p q heavy P Q i lt s None e =
    e ∙ sym (seen_from windows events more p q P Q i lt ∙ ap (partner_below (length events)) e)
settled_at windows events more p q heavy P Q i lt s (Some k) e =
    let n : ℕ = length events in
    let seen : partner p i ≡ partner_below n (Some k) = seen_from windows events more p q P Q i lt ∙ ap (partner_below n) e in
    elim (cases_lt k n) [
      | inl h ↦ e ∙ sym (seen ∙ below_less n k h)
      | inr h ↦
          let none : partner p i ≡ None = seen ∙ below_more n k h in
          let inside = partner_within q k i (Q.back i k e) in
          let c = Q.compatible i k (omega arith) e in
          let wide = still_open windows events more i k heavy lt h (omega (arith, Q.total)) c in
          let side : (event_at (events ++ more) i).side ≡ (event_at events i).side = ap (λ (x : StampedEvent). x.view.side) (stamped-append events more i lt) in
          let some_side : is_neither (event_at events i).side ≡ false =
          ap is_neither (sym side) ∙ not_neither _ _ (compatible_parts windows (events ++ more) i k c).sides in
          absurd (unsettled (is_neither (event_at events i).side) (is_some (partner p i)) (is_window_open windows events i) some_side (ap (λ (x : Option ℕ). is_some x) none) wide s)
    ]

pub settled_stays : SettledKeepPartners
settled_stays windows events more p q heavy P Q i lt s = settled_at windows events more p q heavy P Q i lt s (partner q i) refl

settled_by : (s t a b o w : Bool) → s ≡ t → a ≡ b → (w ≡ true → o ≡ true) → (s || a || not o) ≡ true → (t || b || not w) ≡ true
settled_by true t a b o w x y f h = rw (← x) refl
settled_by false t true b o w x y f h = rw (← x, ← y) refl
settled_by false t false b o true x y f h = absurd (unsettled false false o refl refl (f refl) h)
settled_by false t false b o false x y f h = rw (← x, ← y) refl

pub settled_grows : SettledStaySettled
settled_grows windows events more p q heavy P Q i lt s =
    let side : (event_at events i).side ≡ (event_at (events ++ more) i).side = ap (λ (x : StampedEvent). x.view.side) (sym (stamped-append events more i lt)) in
    let same : partner p i ≡ partner q i = sym (settled_stays windows events more p q heavy P Q i lt s) in
    settled_by (is_neither (event_at events i).side) (is_neither (event_at (events ++ more) i).side) (is_some (partner p i)) (is_some (partner q i)) (is_window_open windows events i) (is_window_open windows (events ++ more) i)
    (ap is_neither side) (ap (λ (x : Option ℕ). is_some x) same) (was_open windows events more i lt) s
