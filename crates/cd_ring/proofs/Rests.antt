-- The coordinator's seat between two calls.
use Rattle.std.proofs.Common.{◌≡◌, ℕ, zero, suc, ◌+◌, ◌-◌, ◌%◌, ◌<◌, ◌≤◌, ◌≢◌, true, List, [], ◌∷◌, ◌++◌, length, set, sym, refl, ap, ap₂, ◌∙◌, subst, arith, mod-lt, length-set, length-append, Some}
use mathlib.Core.Logic.{dite}
use mathlib.Core.Option.{some}
use native.Mathlib.Decide.{ℕ_discrete, dec_le}
use native.Mathlib.Nat.{mod-add-mod, add-mod_right}
use lib.ListN.{get_elem?}
use Rattle.atomic_table.proofs.Lists.{set_here, set_else, one_turn}
use Rattle.cd_ring.specs.declared.view.Place.{Place}
use Rattle.cd_ring.specs.declared.view.Place.TheVariants.{Empty, Job}
use Rattle.cd_ring.specs.declared.view.Note.{Note}
use Rattle.cd_ring.specs.declared.view.Note.TheVariants.{Home, Spare}
use Rattle.cd_ring.specs.declared.view.Known.{Known}
use Rattle.cd_ring.specs.Kinds.{Seated, stored, with_post}
use Rattle.cd_ring.specs.Rule.{READY}
use Rattle.cd_ring.specs.Rest.{spares, AtRest, Took}
use Rattle.atomic_table.specs.Table.{turned}

pub spares_one : {J D : Type 0} (slots p k q : ℕ) → k ≡ q + 1 → spares {J = J} {D = D} slots p k ≡ (p % slots, Empty) ∷ spares slots (p + 1) q
spares_one {J} {D} slots p k q e = ap (λ (z : ℕ). spares {J = J} {D = D} slots p z) (let h : k ≡ suc q = omega arith in h)

pub spares_end : {J D : Type 0} (slots p q : ℕ) (i : ℕ) → i ≡ (p + q) % slots → spares {J = J} {D = D} slots p q ++ (i, Empty) ∷ [] ≡ spares slots p (suc q)
spares_end {J} {D} slots p zero i e = let y : Place J D = Empty in ap (λ (z : ℕ). (z, y) ∷ []) (e ∙ ap (λ (z : ℕ). z % slots) (let h : p + 0 ≡ p = omega arith in h))
spares_end {J} {D} slots p (suc q) i e = let y : Place J D = Empty in ap (λ (l : List (ℕ × Place J D)). (p % slots, y) ∷ l) (spares_end slots (p + 1) q i (e ∙ ap (λ (z : ℕ). z % slots) (let h : p + suc q ≡ p + 1 + q = omega arith in h)))

module _ {T J D : Type 0} (slots next count : ℕ) where
  -- the place of the next job's slot is in front
  pub next_place : (m : Seated T J D) → AtRest slots next count m → count < slots → (i : ℕ) → i ≡ (next + count) % slots
      → (i ≡ (m.0.known.taken + count) % slots) × (get_elem? m.0.known.notes i ≡ some Spare) × (m.1 ≡ (i, Empty) ∷ spares slots (m.0.known.taken + count + 1) (slots - (count + 1)))
  next_place m r room i is = let t : ℕ = m.0.known.taken in let e : i ≡ (t + count) % slots = is ∙ ap (λ (z : ℕ). (z + count) % slots) r.next_is ∙ mod-add-mod t slots count in (
    e,
    ap (λ (z : ℕ). get_elem? m.0.known.notes z) e ∙ r.spare count (omega arith) room,
    r.places ∙ (spares_one slots (t + count) (slots - count) (slots - (count + 1)) (omega arith) ∙ ap (λ (z : ℕ). (z, Empty) ∷ spares slots (t + count + 1) (slots - (count + 1))) (sym e)),
  )

  pub posted : (m n : Seated T J D) (i : ℕ) (x : J) → AtRest slots next count m → count < slots → i ≡ (next + count) % slots
      → n.0.known ≡ with_post m.0.known i x → n.0.looks ≡ m.0.looks → n.0.stores ≡ stored m.0.stores i READY (Some (Job x)) → n.1 ≡ spares slots (m.0.known.taken + count + 1) (slots - (count + 1)) → AtRest slots next (count + 1) n
  posted m n i x r room is e f h g = let t : ℕ = m.0.known.taken in let pl = next_place m r room i is in let k = with_post m.0.known i x in
      let near : i < slots = subst (λ (z : ℕ). z < slots) (sym pl.0) (mod-lt (t + count) r.some_slot) in
      let apart : (j : ℕ) → j < slots → j ≢ count → (t + j) % slots ≢ i = λ j low other same. other (turn t j count low room (same ∙ pl.0)) in
      subst (AtRest slots next (count + 1)) (λ l. (record { known = sym e l; looks = sym f l; stores = sym h l }, sym g l)) record {
        leads = r.leads;
        count_is = length-append m.0.known.out (x ∷ []) ∙ ap (λ (z : ℕ). z + 1) r.count_is;
        next_is = r.next_is;
        some_slot = r.some_slot;
        within = omega arith;
        held_long = r.held_long;
        looks_long = r.looks_long;
        stores_long = length-set m.0.stores i _ ∙ r.stores_long;
        notes_long = length-set m.0.known.notes i Home ∙ r.notes_long;
        no_claim = r.no_claim;
        home = λ j low. dite (ℕ_discrete j count)
            (λ z. subst (λ (q : ℕ). get_elem? k.notes q ≡ some Home) (pl.0 ∙ ap (λ (q : ℕ). (t + q) % slots) (sym z)) (set_here m.0.known.notes i Home (subst (λ (q : ℕ). i < q) (sym r.notes_long) near)))
            (λ z. set_else m.0.known.notes i ((t + j) % slots) Home (apart j (omega arith) z) ∙ r.home j (omega arith));
        spare = λ j high low. set_else m.0.known.notes i ((t + j) % slots) Home (apart j low (λ z. omega arith)) ∙ r.spare j (omega arith) low;
        places = ap (λ (z : ℕ). spares slots z (slots - (count + 1))) (let h : t + count + 1 ≡ t + (count + 1) = omega arith in h);
      }
    where
      turn : (t a b : ℕ) → a < slots → b < slots → (t + a) % slots ≡ (t + b) % slots → a ≡ b
      turn t a b la lb same = dite (dec_le a b)
          (λ le. let h : t + a ≡ t + b = one_turn (t + a) (t + b) slots (omega arith) (omega arith) same in omega arith)
          (λ no. let h : t + b ≡ t + a = one_turn (t + b) (t + a) slots (omega arith) (omega arith) (sym same) in omega arith)

  -- the slot of the oldest job
  pub oldest_place : (m : Seated T J D) → AtRest slots next count m → 0 < count → (x : J) × (xs : List J) × (m.0.known.out ≡ x ∷ xs) × (get_elem? m.0.known.notes next ≡ some Home) × (next < slots)
  oldest_place m r some_out = go m.0.known.out refl
    where
      t : ℕ
      t = m.0.known.taken

      home : get_elem? m.0.known.notes next ≡ some Home
      home = ap (λ (z : ℕ). get_elem? m.0.known.notes z) (r.next_is ∙ ap (λ (z : ℕ). z % slots) (let h : m.0.known.taken ≡ m.0.known.taken + 0 = omega arith in h)) ∙ r.home 0 some_out

      near : next < slots
      near = subst (λ (z : ℕ). z < slots) (sym r.next_is) (mod-lt m.0.known.taken r.some_slot)

      go : (l : List J) → m.0.known.out ≡ l → (x : J) × (xs : List J) × (m.0.known.out ≡ x ∷ xs) × (get_elem? m.0.known.notes next ≡ some Home) × (next < slots)
      go [] e = let h : length m.0.known.out ≡ 0 = ap length e in let h' : length m.0.known.out ≡ count = r.count_is in absurd (omega arith)
      go (x ∷ xs) e = (x, xs, e, home, near)

  -- the oldest job was taken: the slot is free again, and its place is the last of those that the coordinator has
  pub took : (m n : Seated T J D) (x : J) (xs : List J) (c : ℕ) → AtRest slots next count m → count ≡ c + 1 → m.0.known.out ≡ x ∷ xs
      → n.0.known.leads ≡ true → n.0.known.out ≡ xs → n.0.known.taken ≡ m.0.known.taken + 1 → length n.0.known.held ≡ slots → ((i : ℕ) (y : J) → get_elem? n.0.known.held i ≡ some (Some y) → ⊥)
      → n.0.known.notes ≡ set m.0.known.notes next Spare → length n.0.looks ≡ slots + 1 → length n.0.stores ≡ slots + 1 → n.1 ≡ m.1 ++ (next, Empty) ∷ []
      → AtRest slots ((next + 1) % slots) c n
  took m n x xs c r counts out leads out' taken held_long no_claim notes looks_long stores_long places = let t : ℕ = m.0.known.taken in let u : ℕ = n.0.known.taken in let u_is : u ≡ t + 1 = taken in
      let within : count ≤ slots = r.within in let pos : 0 < slots = r.some_slot in
      let near : next < slots = subst (λ (z : ℕ). z < slots) (sym r.next_is) (mod-lt t r.some_slot) in
      let slot : (j : ℕ) → (u + j) % slots ≡ (t + (j + 1)) % slots = λ j. ap (λ (z : ℕ). z % slots) (omega arith) in
      let note : (j : ℕ) → get_elem? n.0.known.notes j ≡ get_elem? (set m.0.known.notes next Spare) j = λ j. ap (λ (l : List (Note D)). get_elem? l j) notes in record {
        leads = leads;
        count_is = let h : length m.0.known.out ≡ suc (length xs) = ap length out in let h' : length m.0.known.out ≡ count = r.count_is in ap length out' ∙ (let g : length xs ≡ c = omega arith in g);
        next_is = ap (λ (z : ℕ). (z + 1) % slots) r.next_is ∙ (mod-add-mod t slots 1 ∙ ap (λ (z : ℕ). z % slots) (sym taken));
        some_slot = r.some_slot;
        within = omega arith;
        held_long = held_long;
        looks_long = looks_long;
        stores_long = stores_long;
        notes_long = ap length notes ∙ (length-set m.0.known.notes next Spare ∙ r.notes_long);
        no_claim = no_claim;
        home = λ j low. ap (λ (z : ℕ). get_elem? n.0.known.notes z) (slot j) ∙ (note ((t + (j + 1)) % slots) ∙ (set_else m.0.known.notes next ((t + (j + 1)) % slots) Spare
            (λ e. let h : t ≡ t + (j + 1) = one_turn t (t + (j + 1)) slots (omega arith) (omega arith) (sym (e ∙ r.next_is)) in omega arith) ∙ r.home (j + 1) (omega arith)));
        spare = λ j high low. ap (λ (z : ℕ). get_elem? n.0.known.notes z) (slot j) ∙ (note ((t + (j + 1)) % slots) ∙ dite (ℕ_discrete (j + 1) slots)
            (λ is. subst (λ (z : ℕ). get_elem? (set m.0.known.notes next Spare) z ≡ some Spare) (r.next_is ∙ (sym (add-mod_right t slots) ∙ ap (λ (z : ℕ). (t + z) % slots) (sym is)))
            (set_here m.0.known.notes next Spare (subst (λ (z : ℕ). next < z) (sym r.notes_long) near)))
            (λ other. set_else m.0.known.notes next ((t + (j + 1)) % slots) Spare
            (λ e. let h : t ≡ t + (j + 1) = one_turn t (t + (j + 1)) slots (omega arith) (omega arith) (sym (e ∙ r.next_is)) in omega arith) ∙ r.spare (j + 1) (omega arith) (omega arith)));
        places = let q : ℕ = slots - count in let last : next ≡ (t + count + q) % slots = r.next_is ∙ (sym (add-mod_right t slots) ∙ ap (λ (z : ℕ). z % slots) (let g : t + slots ≡ t + count + q = omega arith in g)) in
            places ∙ (ap (λ (l : List (ℕ × Place J D)). l ++ (next, Empty) ∷ []) r.places ∙ (spares_end slots (t + count) q next last
            ∙ ap₂ (λ (a b : ℕ). spares {J = J} {D = D} slots a b) (let g : t + count ≡ u + c = omega arith in g) (let g : suc q ≡ slots - c = omega arith in g)));
      }

  -- a look leaves it at rest
  pub looked_rest : (m n : Seated T J D) → AtRest slots next count m → n.0.known ≡ m.0.known → n.1 ≡ m.1 → length n.0.looks ≡ length m.0.looks → n.0.stores ≡ m.0.stores → AtRest slots next count n
  looked_rest m n r e f g h = subst (λ (z : Known T J D × List (ℕ × Place J D)). AtRest slots next count (record { known = z.0; looks = n.0.looks; stores = n.0.stores }, z.1)) (λ l. (sym e l, sym f l))
      record {
        leads = r.leads;
        count_is = r.count_is;
        next_is = r.next_is;
        some_slot = r.some_slot;
        within = r.within;
        held_long = r.held_long;
        looks_long = g ∙ r.looks_long;
        stores_long = ap length h ∙ r.stores_long;
        notes_long = r.notes_long;
        no_claim = r.no_claim;
        home = r.home;
        spare = r.spare;
        places = r.places;
      }

  -- so does a take, once the place was turned behind the others
  pub took_rest : (meets : J → D → Type 0) (m n p : Seated T J D) (d : D) (c : ℕ) → AtRest slots next count m → count ≡ c + 1 → Took meets m next d n → p ≡ (n.0, turned n.1) → AtRest slots ((next + 1) % slots) c p
  took_rest meets m n p d c r counts t is = subst (AtRest slots ((next + 1) % slots) c) (sym is)
      (took m (n.0, turned n.1) t.x t.xs c r counts t.out (t.leads ∙ r.leads) t.left t.taken (t.held_long ∙ r.held_long) (t.no_claim r.no_claim) t.notes (t.looks_long ∙ r.looks_long) (ap length t.stores ∙ (length-set m.0.stores next _ ∙ r.stores_long)) (ap turned t.place))
