-- How an array of numbers is written.
use Rattle.std.proofs.Common.{◌≡◌, ℕ, ◌+◌, List, [], ◌∷◌, ◌++◌, length, map, refl, ap, sym, ◌∙◌, append_assoc, length-append, add-one}
use Rattle.std.proofs.lemmas.List.{append-nil, length-map, map-append}
use Rattle.cd_cbor.specs.declared.item.Item.{Item}
use Rattle.cd_cbor.specs.Items.{unsigned, array}
use Rattle.cd_cbor.specs.Spelling.{head, spelling, spelling_all}
use Rattle.cd_cbor.proofs.Spelled.{spelling_array, spelling_all_append, grown}
use Rattle.cd_file.specs.Maps.{numbers}
use Rattle.cd_file.specs.Head.{listed_opcode, opcodes_below}

-- the head and the numbers
pub numbers_written : (start now next : List ℕ) (ns : List ℕ) (n : ℕ) →
    now ≡ start ++ head 4 n → next ≡ now ++ spelling_all (map unsigned ns) → n ≡ length ns → next ≡ start ++ spelling (numbers ns)
numbers_written start now next ns n begun added counted =
    grown start now next (head 4 n) (spelling_all (map unsigned ns)) (spelling (numbers ns)) begun added
    (spelling_array (map unsigned ns) ∙ ap (λ m. head 4 m ++ spelling_all (map unsigned ns)) (length-map ns unsigned ∙ sym counted))

-- two numbers
pub two_written : (start first second next : List ℕ) (a b : ℕ) →
    first ≡ start ++ head 4 2 → second ≡ first ++ spelling (unsigned a) → next ≡ second ++ spelling (unsigned b) →
    next ≡ start ++ spelling (numbers (a ∷ b ∷ []))
two_written start first second next a b begun one two =
    let both : next ≡ first ++ (spelling (unsigned a) ++ (spelling (unsigned b) ++ [])) =
    two ∙ ap (λ t. t ++ spelling (unsigned b)) one ∙ append_assoc first (spelling (unsigned a)) (spelling (unsigned b))
    ∙ ap (λ t. first ++ (spelling (unsigned a) ++ t)) (sym (append-nil (spelling (unsigned b)))) in
    numbers_written start first next (a ∷ b ∷ []) 2 begun both refl

-- an array of one item
pub one_written : (start now next : List ℕ) (item : Item) →
    now ≡ start ++ head 4 1 → next ≡ now ++ spelling item → next ≡ start ++ spelling (array (item ∷ []))
one_written start now next item begun added =
    grown start now next (head 4 1) (spelling item) (spelling (array (item ∷ []))) begun added
    (spelling_array (item ∷ []) ∙ ap (λ t. head 4 1 ++ t) (append-nil (spelling item)))

-- no opcode is below 0
pub no_opcode_below : (opcodes : ℕ) → opcodes_below 0 opcodes ≡ []
unfolding opcodes_below
no_opcode_below opcodes = refl

-- one more opcode
pub opcodes_below_more : (n opcodes : ℕ) → opcodes_below (n + 1) opcodes ≡ opcodes_below n opcodes ++ listed_opcode opcodes n
unfolding opcodes_below
opcodes_below_more n opcodes = ap (λ k. opcodes_below k opcodes) (add-one n)

-- how many with one more
pub opcodes_count_more : (n opcodes : ℕ) → length (opcodes_below (n + 1) opcodes) ≡ length (opcodes_below n opcodes) + length (listed_opcode opcodes n)
opcodes_count_more n opcodes =
    ap length (opcodes_below_more n opcodes) ∙ length-append (opcodes_below n opcodes) (listed_opcode opcodes n)

-- one more opcode is spelled after the others
pub opcodes_spelling_more : (n opcodes : ℕ) →
    spelling_all (map unsigned (opcodes_below (n + 1) opcodes)) ≡ spelling_all (map unsigned (opcodes_below n opcodes)) ++ spelling_all (map unsigned (listed_opcode opcodes n))
opcodes_spelling_more n opcodes =
    ap (λ ns. spelling_all (map unsigned ns)) (opcodes_below_more n opcodes)
    ∙ ap spelling_all (map-append unsigned (opcodes_below n opcodes) (listed_opcode opcodes n))
    ∙ spelling_all_append (map unsigned (opcodes_below n opcodes)) (map unsigned (listed_opcode opcodes n))

-- no number is nothing
pub numbers_begun : (start : List ℕ) (opcodes : ℕ) → start ≡ start ++ spelling_all (map unsigned (opcodes_below 0 opcodes))
numbers_begun start opcodes =
    sym (ap (λ ns. start ++ spelling_all (map unsigned ns)) (no_opcode_below opcodes) ∙ append-nil start)
