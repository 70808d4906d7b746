-- A signature, put part by part.
use Rattle.std.proofs.Common.{◌≡◌, ℕ, List, Option, ap, sym, ◌∙◌}
use Rattle.cd_block.specs.declared.block.BlockSig.{BlockSig}
use Rattle.cd_block.specs.declared.kept.KeptSig.{KeptSig}
use Rattle.cd_table.specs.declared.tables.Tables.{Tables}
use Rattle.cd_table.specs.Growing.{After, if_present, put_address, put_classtype, put_bytes, put_block_signature, put_signature, signature_at}

-- what a step gives, by its parts
after_path : {X : Type 0} (r : After X) (t : Tables) (v : X) → t ≡ r.tables → v ≡ r.value → r ≡ record { tables = t; value = v }
after_path r t v p q = λ i. record { tables = sym p i; value = sym q i }

-- the signature whose parts were put one after the other
pub signature_put : (s : KeptSig) (address : Option (List ℕ)) (classtype : Option (ℕ × ℕ)) (options : Option (List ℕ)) (a c o : Option ℕ) (t0 t1 t2 t3 : Tables) (b : BlockSig) →
    address ≡ s.server_address → classtype ≡ s.classtype → options ≡ s.opt_rdata →
    t1 ≡ (if_present put_address address t0).tables → a ≡ (if_present put_address address t0).value →
    t2 ≡ (if_present put_classtype classtype t1).tables → c ≡ (if_present put_classtype classtype t1).value →
    t3 ≡ (if_present put_bytes options t2).tables → o ≡ (if_present put_bytes options t2).value →
    b ≡ signature_at s a c o → put_block_signature b t3 ≡ put_signature s t0
unfolding put_signature
signature_put s address classtype options a c o t0 t1 t2 t3 b ea ec eo p1 q1 p2 q2 p3 q3 eb =
    let last : Option ℕ → Option ℕ → After (Option ℕ) → After ℕ = λ x y u. put_block_signature (signature_at s x y u.value) u.tables in
    let middle : Option ℕ → After (Option ℕ) → After ℕ = λ x u. last x u.value (if_present put_bytes s.opt_rdata u.tables) in
    let whole : After (Option ℕ) → After ℕ = λ u. middle u.value (if_present put_classtype s.classtype u.tables) in
    ap (λ (x : BlockSig). put_block_signature x t3) eb
    ∙ ap (last a c) (sym (after_path (if_present put_bytes options t2) t3 o p3 q3) ∙ ap (λ x. if_present put_bytes x t2) eo)
    ∙ ap (middle a) (sym (after_path (if_present put_classtype classtype t1) t2 c p2 q2) ∙ ap (λ x. if_present put_classtype x t1) ec)
    ∙ ap whole (sym (after_path (if_present put_address address t0) t1 a p1 q1) ∙ ap (λ x. if_present put_address x t0) ea)
