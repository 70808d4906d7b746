-- What writes change in the links of slots.
use Rattle.std.proofs.Common.{◌≡◌, ℕ, ◌<◌, eqb, List, length, set, get_or, map, refl, ap, sym, ◌∙◌, inl, inr, cond}
use Rattle.std.proofs.lemmas.Bool.{cases_Bool, eqb-true, eqb-false, eq-eqb, ne_eqb}
use Rattle.std.proofs.Math.Seq.{map-set_same}
use Rattle.std.proofs.lemmas.List.{get_or-set_same, get_or-set_other, map-set, get_or-map, length-map}
use Rattle.cd_chain.specs.declared.slot.Slot.{Slot}
use Rattle.cd_chain.specs.declared.link.Link.{Link}
use Rattle.cd_chain.specs.declared.link.Links.{Links}
use Rattle.cd_chain.specs.Lanes.{no_links, lane_link}
use Rattle.cd_chain.specs.Links.{with_link, link_in}
use std.Path.{fun_ext}

links_after : (xs : List Links) (slot t : ℕ) (new : Links) → slot < length xs → get_or (set xs slot new) t no_links ≡ cond (eqb t slot) new (get_or xs t no_links)
links_after xs slot t new i = elim (cases_Bool (eqb t slot)) [
  | inl e ↦ rw e (ap (λ (x : ℕ). get_or (set xs slot new) x no_links) (eqb-true t slot e) ∙ get_or-set_same xs slot new no_links i)
  | inr e ↦ rw e (get_or-set_other xs slot t new no_links (eqb-false t slot e))
]

-- the link of a slot, where a slot is written
slot_after : {T : Type 0} (slots : List (Slot T)) (slot l t : ℕ) (y : Slot T) → slot < length slots → link_in (set slots slot y) l t ≡ lane_link (cond (eqb t slot) y.links (get_or (map (λ (x : Slot T). x.links) slots) t no_links)) l
slot_after {T} slots slot l t y i =
    ap (λ (ls : List Links). lane_link (get_or ls t no_links) l) (map-set (λ (x : Slot T). x.links) slots slot y)
    ∙ ap (λ (ls : Links). lane_link ls l) (links_after (map (λ (x : Slot T). x.links) slots) slot t y.links (rw length-map i))

pub link_here : {T : Type 0} (slots : List (Slot T)) (lane slot : ℕ) (x : Slot T) → slot < length slots → lane_link (get_or slots slot x).links lane ≡ link_in slots lane slot
link_here {T} slots lane slot x i = ap (λ (ls : Links). lane_link ls lane) (sym (get_or-map (λ (s : Slot T). s.links) slots slot x no_links i))

-- the links of a lane, where a slot is written that differs in one link
pub slot_linked : {T : Type 0} (slots : List (Slot T)) (lane slot : ℕ) (link : Link) (x y : Slot T) → slot < length slots →
    ((l : ℕ) → lane_link y.links l ≡ cond (eqb l lane) link (lane_link (get_or slots slot x).links l)) → link_in (set slots slot y) lane ≡ with_link (link_in slots lane) slot link
slot_linked {T} slots lane slot link x y i h = fun_ext (λ t. slot_after slots slot lane t y i ∙ elim (cases_Bool (eqb t slot)) [
  | inl e ↦ rw e (h lane ∙ rw (eq-eqb lane lane refl) refl)
  | inr e ↦ rw e refl
])

-- the links of the other lanes
pub slot_unlinked : {T : Type 0} (slots : List (Slot T)) (lane slot : ℕ) (link : Link) (x y : Slot T) → slot < length slots →
    ((l : ℕ) → lane_link y.links l ≡ cond (eqb l lane) link (lane_link (get_or slots slot x).links l)) → (l : ℕ) → (l ≡ lane → ⊥) → link_in (set slots slot y) l ≡ link_in slots l
slot_unlinked {T} slots lane slot link x y i h l ne = fun_ext (λ t. slot_after slots slot l t y i ∙ elim (cases_Bool (eqb t slot)) [
  | inl e ↦ rw e (h l ∙ rw (ne_eqb l lane ne) (link_here slots l slot x i) ∙ ap (link_in slots l) (sym (eqb-true t slot e)))
  | inr e ↦ rw e refl
])

-- the links, where a slot is written that differs in its place
pub same_links : {T : Type 0} (slots : List (Slot T)) (slot : ℕ) (x y : Slot T) → y.links ≡ (get_or slots slot x).links → link_in (set slots slot y) ≡ link_in slots
same_links {T} slots slot x y e = ap (λ (ls : List Links). λ (l t : ℕ). lane_link (get_or ls t no_links) l) (map-set_same (λ (s : Slot T). s.links) slots slot y x e)
