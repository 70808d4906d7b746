-- Keys are told apart by their bytes, and equal keys have one number.
use Rattle.std.proofs.Common.{◌≡◌, ℕ, Bool, true, List, [], ◌∷◌, cond, Option, Some, None, refl, ap, sym, ◌∙◌}
use Rattle.std.specs.Cmp.{IsEquivalence, on_equiv, and_equiv}
use Rattle.std.specs.Cmp.Lexicographic.{nat_list_eq_equiv, options_equiv}
use Rattle.std.specs.Map.{lookup}
use Rattle.std.proofs.lemmas.Bool.{true≢false}
use Rattle.indexmap.specs.IndexMap.{IndexMap}
use Rattle.cd_chain.specs.Contents.{Contents, value_at}
use Rattle.cd_window.specs.declared.key.Key.{Key}
use Rattle.cd_window.specs.declared.waiter.Waiter.{Waiter}
use Rattle.cd_window.specs.Keys.{same_key}
use Rattle.cd_window.specs.Lists.{key_in, key_is, has_key, number_of}
use Rattle.cd_window.proofs.Indexing.{AreKeys}

pub same_key_laws : IsEquivalence same_key
same_key_laws = and_equiv (on_equiv (λ (k : Key). k.primary.items) nat_list_eq_equiv) (on_equiv (λ (k : Key). k.secondary) (options_equiv (on_equiv (λ v. v.items) nat_list_eq_equiv)))

lookup_same : (k l : Key) → same_key k l ≡ true → (es : List (Key × ℕ)) → lookup (same_key k) es ≡ lookup (same_key l) es
lookup_same k l h [] = refl
lookup_same k l h (e ∷ es) =
    ap (λ (b : Bool). cond b (Some e.1) (lookup (same_key k) es)) (same_key_laws.congr k l e.0 h)
    ∙ ap (λ (o : Option ℕ). cond (same_key l e.0) (Some e.1) o) (lookup_same k l h es)

alike : (lane : ℕ) (k l : Key) (o : Option Waiter) → same_key k l ≡ true → key_is lane k o ≡ key_is lane l o
alike lane k l None h = refl
alike lane k l (Some w) h = same_key_laws.congr k l (key_in lane w) h

one : (lane : ℕ) (k l : Key) (o : Option Waiter) → key_is lane k o ≡ true → key_is lane l o ≡ true → same_key k l ≡ true
one lane k l None h j = absurd (true≢false (sym h))
one lane k l (Some w) h j = same_key_laws.congr k (key_in lane w) l h ∙ same_key_laws.symm (key_in lane w) l ∙ j

pub keys_are : {S : Type 0} (m : IndexMap Key ℕ S) (it : Contents Waiter) (lane : ℕ) → AreKeys (number_of m) (has_key it lane) same_key
keys_are m it lane = record {
  laws = same_key_laws;
  numbers = λ k l h. lookup_same k l h m.entries;
  alike = λ k l s h. alike lane k l (value_at it s) h;
  one = λ k l s h j. one lane k l (value_at it s) h j;
}
