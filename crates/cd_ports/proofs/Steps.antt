-- Several writes as one.
use Rattle.std.proofs.Common.{◌≡◌, ℕ, ◌+◌, ◌≤◌, min, Bool, true, false, ◌||◌, List, [], ◌++◌, length, take, drop, Option, Some, None, Result, Ok, Err, refl, ap, sym, ◌∙◌, arith, append_assoc, is_err, subst}
use Rattle.std.proofs.lemmas.List.{take_all, take-append-le, take_min, append-nil, drop-take, take-take, take-append-drop}
use Rattle.std.proofs.Math.Seq.{take-add, take-append-add}
use Rattle.std.proofs.KnownBytes.{Appends-kept, Appends-nil, Appends-trans}
use Rattle.std.specs.Io.KnownBytes.{Appends, Consumes, Keeps}
use Rattle.cd_ports.specs.declared.sink.SinkFault.{SinkFault}
use Rattle.cd_ports.specs.declared.sink.SinkFault.TheVariants.{Failed, NoMemory}
use Rattle.cd_ports.specs.Writing.{AppendsPrefix, WritesPiece, is_failure}

-- a prefix of a front is one of the whole
pub prefix_longer : (a b : Option (List ℕ)) (p q : List ℕ) → AppendsPrefix a b p → AppendsPrefix a b (p ++ q)
prefix_longer None b p q h = tt
prefix_longer (Some xs) None p q h = absurd h
prefix_longer (Some xs) (Some ys) p q h =
    (min h.0 (length p), h.1 ∙ ap (λ t. xs ++ t) (sym (take_min h.0 p) ∙ sym (take-append-le (min h.0 (length p)) p q (omega arith))))

-- bytes, and then a prefix of others
pub prefix_then : (a b c : Option (List ℕ)) (p q : List ℕ) → Appends a b p → AppendsPrefix b c q → AppendsPrefix a c (p ++ q)
prefix_then None b c p q h k = tt
prefix_then (Some xs) None c p q h k = absurd h
prefix_then (Some xs) (Some ys) None p q h k = absurd k
prefix_then (Some xs) (Some ys) (Some zs) p q h k =
    (length p + k.0, k.1 ∙ ap (λ t. t ++ take k.0 q) h ∙ append_assoc xs p (take k.0 q) ∙ ap (λ t. xs ++ t) (sym (take-append-add p q k.0)))

-- bytes, and then a write of others
pub writes_then : {T : Type 0} (a b c : Option (List ℕ)) (r : Result T SinkFault) (p q : List ℕ) → Appends a b p → WritesPiece b c r q → WritesPiece a c r (p ++ q)
writes_then a b c (Ok x) p q h k = Appends-trans a b c p q h k
writes_then a b c (Err e) p q h k = prefix_then a b c p q h k

-- the answer of a write that was refused
abbrev pub stopped : (T : Type 0) → SinkFault → Result T SinkFault
stopped T e = Err e

-- a refusal that is a failure is one in an answer of any type
pub same_failure : (T U : Type 0) (d : SinkFault) → stopped U d ≡ Err Failed → stopped T d ≡ Err Failed
same_failure T U Failed is = refl
same_failure T U NoMemory is = absurd cc

-- whether a refusal is a failure is the same in an answer of any type
pub same_kind : (T U : Type 0) (d : SinkFault) → is_failure (stopped T d) ≡ is_failure (stopped U d)
same_kind T U Failed = refl
same_kind T U NoMemory = refl

-- bytes that were taken, and then others
pub consumes_then : (a b c : Option (List ℕ)) (p q : List ℕ) → Consumes a b p → Consumes b c q → Consumes a c (p ++ q)
consumes_then None b c p q h k = tt
consumes_then (Some xs) None c p q h k = absurd h
consumes_then (Some xs) (Some ys) None p q h k = absurd k
consumes_then (Some xs) (Some ys) (Some zs) p q h k = h ∙ ap (λ t. p ++ t) k ∙ sym (append_assoc p q zs)

-- nothing was taken
pub consumes_none : (a b : Option (List ℕ)) → Keeps a b → Consumes a b []
consumes_none None b h = tt
consumes_none (Some xs) None h = absurd h
consumes_none (Some xs) (Some ys) h = sym h

-- a failed read takes nothing more
pub consumes_kept : (a b c : Option (List ℕ)) (p : List ℕ) → Consumes a b p → Keeps b c → Consumes a c p
consumes_kept None b c p h k = tt
consumes_kept (Some xs) None c p h k = absurd h
consumes_kept (Some xs) (Some ys) None p h k = absurd k
consumes_kept (Some xs) (Some ys) (Some zs) p h k = h ∙ ap (λ t. p ++ t) (sym k)

-- bytes that stay are kept
pub keeps_same : (a : Option (List ℕ)) → Keeps a a
keeps_same None = tt
keeps_same (Some xs) = refl

-- some more of a piece
pub sent_more : (a b c : Option (List ℕ)) (piece : List ℕ) (done count : ℕ) → Appends a b (take done piece) → Appends b c (take count (drop done piece)) →
    Appends a c (take (done + count) piece)
sent_more a b c piece done count h k =
    let P : List ℕ → Type 0 = λ t. Appends a c t in
    subst P (sym (take-add done count piece)) (Appends-trans a b c (take done piece) (take count (drop done piece)) h k)

pub ruleset sent = (sent_more, Appends-nil, Appends-kept, take_all)
