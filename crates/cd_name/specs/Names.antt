-- Names in a message (RFC 1035 3.1, 4.1.4): a run of labels, each after its length byte, ends at a root, at a pointer or at a rule that is broken.
use Rattle.std.specs.Prelude.{◌≡◌, ℕ, zero, suc, ◌+◌, ◌-◌, ◌*◌, ◌≤◌, Bool, true, false, ◌&&◌, nat_lt, nat_eq, List, [], ◌∷◌, ◌++◌, length, take, drop, slice_index, if◌then◌else◌, Option, Some, None, Result, Ok, Err}
use Rattle.cd_name.specs.declared.fault.NameWhy.{NameWhy}
use Rattle.cd_name.specs.declared.fault.NameWhy.TheVariants.{Short, Label, Pointer, LongName}

-- how a run of labels ends: at a root, at a pointer to a target, or at a rule that is broken
pub data RunEnd : Type 0 where
  Root : RunEnd
  Target : ℕ → RunEnd
  Break : NameWhy → RunEnd

-- the labels of a run, each after its length byte, and how it ends
pub record LabelRun : Type 0 where
  pub labels : List ℕ
  pub end : RunEnd

-- a run of no labels
abbrev pub run_of_end : RunEnd → LabelRun
run_of_end e = record { labels = []; end = e }

-- a label with its length byte, and then a run
abbrev pub label_then_run : List ℕ → LabelRun → LabelRun
label_then_run label r = record { labels = label ++ r.labels; end = r.end }

-- the run at the front of some bytes, which begin with so many bytes of a label
unfoldable pub label_run : ℕ → List ℕ → LabelRun
label_run zero [] = run_of_end (Break Short)
label_run (suc inside) [] = run_of_end (Break Short)
label_run (suc inside) (b ∷ bytes) = label_run inside bytes
label_run zero (n ∷ bytes) =
    if nat_eq n 0 then run_of_end Root
    else (if nat_lt 191 n then (if nat_eq (length bytes) 0 then run_of_end (Break Short) else run_of_end (Target ((n - 192) * 256 + slice_index bytes 0)))
    else (if nat_lt 63 n then run_of_end (Break Label)
    else (if nat_lt (length bytes) n then run_of_end (Break Short)
    else label_then_run (n ∷ take n bytes) (label_run n bytes))))

-- what is read from an offset on: labels, the offset after the name's own bytes, and the rule that is broken after the labels
pub record NameReading : Type 0 where
  pub labels : List ℕ
  pub next : ℕ
  pub fault : Option NameWhy

-- what is read at a root
abbrev pub root_reading : ℕ → NameReading
root_reading next = record { labels = []; next = next; fault = None }

-- what is read where a rule is broken
abbrev pub break_reading : ℕ → NameWhy → NameReading
break_reading at why = record { labels = []; next = at; fault = Some why }

-- a label with its length byte, and then what is read after it
abbrev pub label_then_reading : List ℕ → NameReading → NameReading
label_then_reading label r = record { labels = label ++ r.labels; next = r.next; fault = r.fault }

-- a pointer that ends before an offset, and then what is read at its target
abbrev pub pointer_then_reading : ℕ → NameReading → NameReading
pointer_then_reading next r = record { labels = r.labels; next = next; fault = r.fault }

-- what is read at a run's end that stands at an offset, if a pointer to a target reads so
abbrev pub end_reading : (ℕ → NameReading) → ℕ → RunEnd → NameReading
end_reading at_target at Root = root_reading (at + 1)
end_reading at_target at (Target t) = pointer_then_reading (at + 2) (at_target t)
end_reading at_target at (Break why) = break_reading at why

-- what a run at an offset reads, if a pointer to a target reads so
abbrev pub run_reading : (ℕ → NameReading) → ℕ → LabelRun → NameReading
run_reading at_target at r = label_then_reading r.labels (end_reading at_target (at + length r.labels) r.end)

-- what a pointer to a target reads, in a run that begins at an offset: a new run begins at a target before that offset
unfoldable pub target_reading : List ℕ → ℕ → ℕ → NameReading
target_reading payload zero target = break_reading 0 Pointer
target_reading payload (suc start) target =
    if nat_eq target start then run_reading (target_reading payload start) start (label_run 0 (drop start payload))
    else target_reading payload start target

-- what is read from an offset on, in a run that begins at start
unfoldable pub reading_at : List ℕ → ℕ → ℕ → NameReading
reading_at payload start at = run_reading (target_reading payload start) at (label_run 0 (drop at payload))

-- labels and the root, or the rule that is broken after the labels
abbrev pub name_or_rule : List ℕ → ℕ → Option NameWhy → Result (List ℕ × ℕ) NameWhy
name_or_rule labels next None = Ok (labels ++ 0 ∷ [], next)
name_or_rule labels next (Some why) = Err why

-- Labels of more than 254 bytes leave no room for the root, and that rule is broken before any after them.
abbrev pub name_of_reading : NameReading → Result (List ℕ × ℕ) NameWhy
name_of_reading r = if nat_lt 254 (length r.labels) then Err LongName else name_or_rule r.labels r.next r.fault

-- the name at an offset and the offset after its own bytes, or the first rule that is broken
abbrev pub name_at : List ℕ → ℕ → Result (List ℕ × ℕ) NameWhy
name_at payload at = name_of_reading (reading_at payload at at)

-- a name stands at an offset, and its own bytes end before the next one
abbrev pub NameAt : List ℕ → ℕ → List ℕ → ℕ → Type 0
NameAt payload at name next = name_at payload at ≡ Ok (name, next)

-- no name stands at an offset, and this rule is the first that is broken
abbrev pub NameBroken : List ℕ → ℕ → NameWhy → Type 0
NameBroken payload at why = name_at payload at ≡ Err why

-- whether bytes, which begin with so many bytes of a label, are labels of 1 to 63 bytes and then the root (RFC 1035 3.1)
unfoldable pub are_labels_and_root : ℕ → List ℕ → Bool
are_labels_and_root zero [] = false
are_labels_and_root (suc inside) [] = false
are_labels_and_root (suc inside) (b ∷ bytes) = are_labels_and_root inside bytes
are_labels_and_root zero (n ∷ bytes) =
    if nat_eq n 0 then nat_eq (length bytes) 0
    else (if nat_lt 63 n then false else are_labels_and_root n bytes)

-- a name without pointers, of 1 to 255 bytes
abbrev pub IsName : List ℕ → Type 0
IsName bytes = (are_labels_and_root 0 bytes ≡ true) × (length bytes ≤ 255)

-- a byte in lower case: 0x41 to 0x5a become 0x61 to 0x7a
abbrev pub lower_case : ℕ → ℕ
lower_case b = if nat_lt 64 b && nat_lt b 91 then b + 32 else b

-- whether a run ends for want of bytes
abbrev pub is_short_end : RunEnd → Bool
is_short_end Root = false
is_short_end (Target t) = false
is_short_end (Break Short) = true
is_short_end (Break Label) = false
is_short_end (Break Pointer) = false
is_short_end (Break LongName) = false

-- whether the bytes end before the run at an offset does
abbrev pub run_is_cut : List ℕ → ℕ → Bool
run_is_cut payload at = is_short_end (label_run 0 (drop at payload)).end
