-- Items that the rules read one after the other are those that one reading after the other gives.
use Rattle.std.proofs.Common.{◌≡◌, ℕ, zero, suc, ◌<◌, List, [], ◌∷◌, ◌++◌, length, Result, Ok, Err, ◌⊎◌, inl, inr, refl, subst, sym, ap, append_assoc, arith}
use Rattle.std.proofs.lemmas.List.{append-nil}
use Rattle.cd_message.specs.declared.message.MsgWhy.{MsgWhy}
use Rattle.cd_message.specs.Readings.{repeat}
use Rattle.cd_message.specs.Rules.{ReadsEach, none, one_more, BreaksAmong}
use Rattle.cd_message.proofs.Decides.{Decides}

-- The rules decide what is read after some items that keep a rule of their own: one more item, which keeps it too, or a rule that is broken.
-- What has been read gives the place after it, of which the next reading knows.
pub record DecidesNext {A P : Type 0} (read_at : P → Result (A × P) MsgWhy) (place : List A → ℕ → P) (Keeps : List A → Type 0) (Reads : ℕ → A → ℕ → Type 0)
    (Broken : MsgWhy → List A → ℕ → Type 0) : Type 0 where
  pub front_keeps : (before more : List A) → Keeps (before ++ more) → Keeps before
  pub broken_keeps : (why : MsgWhy) (before : List A) (at : ℕ) → Broken why before at → Keeps before
  pub read : (before : List A) (at : ℕ) (item : A) (next : ℕ) → Reads at item next → Keeps (before ++ item ∷ []) →
      read_at (place before at) ≡ Ok (item, place (before ++ item ∷ []) next)
  pub broken : (why : MsgWhy) (before : List A) (at : ℕ) → Broken why before at → read_at (place before at) ≡ Err why
  pub answer : (before : List A) (at : ℕ) → Keeps before →
      ((item : A) × (next : ℕ) × Reads at item next × Keeps (before ++ item ∷ [])) ⊎ ((why : MsgWhy) × Broken why before at)

-- items that the rules read are read
pub each_is_read : {A P : Type 0} {read_at : P → Result (A × P) MsgWhy} {place : List A → ℕ → P} {Keeps : List A → Type 0} {Reads : ℕ → A → ℕ → Type 0}
    {Broken : MsgWhy → List A → ℕ → Type 0} (d : DecidesNext read_at place Keeps Reads Broken) {count at : ℕ} {items : List A} {end : ℕ} →
    ReadsEach Reads count at items end → (before : List A) → Keeps (before ++ items) →
    repeat read_at count (place before at) ≡ Ok (items, place (before ++ items) end)
unfolding repeat
each_is_read {A} {P} {read_at} {place} d (none at) before keeps = ap (λ t. Ok ([], place t at)) (sym (append-nil before))
each_is_read {A} {P} {read_at} {place} {Keeps} d (one_more count at next end item items first others) before keeps =
    let group : before ++ (item ∷ items) ≡ (before ++ item ∷ []) ++ items = sym (append_assoc before (item ∷ []) items) in
    let keeps_all : Keeps ((before ++ item ∷ []) ++ items) = subst Keeps group keeps in
    let one = d.read before at item next first (d.front_keeps (before ++ item ∷ []) items keeps_all) in
    let more = each_is_read d others (before ++ item ∷ []) keeps_all in
    rw (one, more, group) refl

-- where the rules say that one of the items is the first that is broken, it is
pub among_is_broken : {A P : Type 0} {read_at : P → Result (A × P) MsgWhy} {place : List A → ℕ → P} {Keeps : List A → Type 0} {Reads : ℕ → A → ℕ → Type 0}
    {Broken : MsgWhy → List A → ℕ → Type 0} (d : DecidesNext read_at place Keeps Reads Broken) {read at : ℕ} {items : List A} {here : ℕ} →
    ReadsEach Reads read at items here → (why : MsgWhy) (count : ℕ) (before : List A) → read < count → Broken why (before ++ items) here →
    repeat read_at count (place before at) ≡ Err why
unfolding repeat
among_is_broken d (none at) why zero before left breaks = absurd (omega arith)
among_is_broken {A} {P} {read_at} {place} {Keeps} {Reads} {Broken} d (none at) why (suc count) before left breaks =
    let fails = d.broken why before at (subst (λ t. Broken why t at) (append-nil before) breaks) in
    rw fails refl
among_is_broken d (one_more read at next here item items first others) why zero before left breaks = absurd (omega arith)
among_is_broken {A} {P} {read_at} {place} {Keeps} {Reads} {Broken} d (one_more read at next here item items first others) why (suc count) before left breaks =
    let group : before ++ (item ∷ items) ≡ (before ++ item ∷ []) ++ items = sym (append_assoc before (item ∷ []) items) in
    let breaks_after : Broken why ((before ++ item ∷ []) ++ items) here = subst (λ t. Broken why t here) group breaks in
    let one = d.read before at item next first (d.front_keeps (before ++ item ∷ []) items (d.broken_keeps why ((before ++ item ∷ []) ++ items) here breaks_after)) in
    let more = among_is_broken d others why count (before ++ item ∷ []) (omega arith) breaks_after in
    rw (one, more) refl

-- one of the two holds
abbrev pub EachAnswer : {A : Type 0} (Keeps : List A → Type 0) (Reads : ℕ → A → ℕ → Type 0) (Broken : MsgWhy → List A → ℕ → Type 0) → ℕ → List A → ℕ → Type 0
EachAnswer {A} Keeps Reads Broken count before at =
    ((items : List A) × (end : ℕ) × ReadsEach Reads count at items end × Keeps (before ++ items))
    ⊎ ((why : MsgWhy) × BreaksAmong Reads (λ items here. Broken why (before ++ items) here) count at)

-- an answer, with an item before it
answer_with_item : {A : Type 0} (Keeps : List A → Type 0) (Reads : ℕ → A → ℕ → Type 0) (Broken : MsgWhy → List A → ℕ → Type 0) (count : ℕ) (before : List A) (at : ℕ)
    (item : A) (next : ℕ) → Reads at item next → EachAnswer Keeps Reads Broken count (before ++ item ∷ []) next → EachAnswer Keeps Reads Broken (suc count) before at
answer_with_item Keeps Reads Broken count before at item next first (inl a) =
    inl (item ∷ a.0, a.1, one_more count at next a.1 item a.0 first a.2, subst Keeps (append_assoc before (item ∷ []) a.0) a.3)
answer_with_item Keeps Reads Broken count before at item next first (inr a) =
    inr (
      a.0,
      record {
        before = item ∷ a.1.before;
        here = a.1.here;
        one_is_left = omega (arith, a.1.one_is_left);
        are_read = one_more (length a.1.before) at next a.1.here item a.1.before first a.1.are_read;
        is_broken = subst (λ t. Broken a.0 t a.1.here) (append_assoc before (item ∷ []) a.1.before) a.1.is_broken;
      },
    )

-- after items that keep the rule of their own, the rules have an answer on so many more
pub each_answer : {A P : Type 0} {read_at : P → Result (A × P) MsgWhy} {place : List A → ℕ → P} {Keeps : List A → Type 0} {Reads : ℕ → A → ℕ → Type 0}
    {Broken : MsgWhy → List A → ℕ → Type 0} (d : DecidesNext read_at place Keeps Reads Broken) (count : ℕ) (before : List A) (at : ℕ) → Keeps before →
    EachAnswer Keeps Reads Broken count before at
each_answer {A} {P} {read_at} {place} {Keeps} d zero before at keeps = inl ([], at, none at, subst Keeps (sym (append-nil before)) keeps)
each_answer {A} {P} {read_at} {place} {Keeps} {Reads} {Broken} d (suc count) before at keeps =
    elim (d.answer before at keeps) [
      | inl one ↦ answer_with_item Keeps Reads Broken count before at one.0 one.1 one.2 (each_answer d count (before ++ one.0 ∷ []) one.1 one.3)
      | inr one ↦ inr (
        one.0,
        record {
          before = [];
          here = at;
          one_is_left = omega arith;
          are_read = none at;
          is_broken = subst (λ t. Broken one.0 t at) (sym (append-nil before)) one.1;
        },
      )
    ]

-- the rules that decide each item decide the next one
next_by_rules : {A : Type 0} (read_at : ℕ → Result (A × ℕ) MsgWhy) (Reads : ℕ → A → ℕ → Type 0) (Broken : ℕ → MsgWhy → Type 0) →
    ((at : ℕ) → Decides (read_at at) (λ x. Reads at x.0 x.1) (Broken at)) →
    DecidesNext read_at (λ before at. at) (λ items. Unit {0}) Reads (λ why before at. Broken at why)
next_by_rules read_at Reads Broken each = record {
  front_keeps = λ before more keeps. tt;
  broken_keeps = λ why before at breaks. tt;
  read = λ before at item next reads keeps. (each at).read (item, next) reads;
  broken = λ why before at breaks. (each at).broken why breaks;
  answer = λ before at keeps. elim (each at).answer [ inl a ↦ inl (a.0.0, a.0.1, a.1, tt) | inr a ↦ inr a ];
}

-- the rules that decide each item decide so many, one after the other
pub items_by_rules : {A : Type 0} (read_at : ℕ → Result (A × ℕ) MsgWhy) (Reads : ℕ → A → ℕ → Type 0) (Broken : ℕ → MsgWhy → Type 0) →
    ((at : ℕ) → Decides (read_at at) (λ x. Reads at x.0 x.1) (Broken at)) → (count at : ℕ) →
    Decides (repeat read_at count at) (λ x. ReadsEach Reads count at x.0 x.1) (λ why. BreaksAmong Reads (λ before here. Broken here why) count at)
items_by_rules {A} read_at Reads Broken each count at =
    let d = next_by_rules read_at Reads Broken each in
    record {
      read = λ x reads. each_is_read d reads [] tt;
      broken = λ why breaks. among_is_broken d breaks.are_read why count [] breaks.one_is_left breaks.is_broken;
      answer = elim (each_answer d count [] at tt) [ inl a ↦ inl ((a.0, a.1), a.2) | inr a ↦ inr a ];
    }
