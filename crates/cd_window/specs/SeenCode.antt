-- A window as contracts see it is stored as its fields.
use Rattle.std.specs.Prelude.{ℕ, Bool, List, Option, refl}
use Rattle.std.specs.Coded.{Coded, code_by, coded×, coded_ℕ, coded_bool, coded_list, coded_option}
use Rattle.cd_pairing.specs.declared.keyed.Windows.{Windows}
use Rattle.cd_window.specs.declared.held.Held.{Held}
use Rattle.cd_window.specs.Seen.{Seen}

-- windows are stored as the tuple of their fields
abbrev pub windows_code : Coded Windows
windows_code =
    code_by ((ℕ × ℕ) × (ℕ × ℕ)) (coded× (coded× coded_ℕ coded_ℕ) (coded× coded_ℕ coded_ℕ))
    (λ w. ((w.query_ns, w.skew_ns), (w.count, w.bytes)))
    (λ p. record { query_ns = p.0.0; skew_ns = p.0.1; count = p.1.0; bytes = p.1.1 }) (λ _. refl)

-- so is an event that is held
abbrev pub held_code : {E : Type 0} → Coded E → Coded (Held E)
held_code {E} code =
    code_by ((E × ℕ) × (ℕ × Option ℕ)) (coded× (coded× code coded_ℕ) (coded× coded_ℕ (coded_option coded_ℕ)))
    (λ h. ((h.event, h.clock), (h.weight_sum, h.partner)))
    (λ p. record { event = p.0.0; clock = p.0.1; weight_sum = p.1.0; partner = p.1.1 }) (λ _. refl)

-- and a window
abbrev pub seen_code : {E : Type 0} → Coded E → Coded (Seen E)
seen_code {E} code =
    code_by ((Windows × Bool) × ((ℕ × ℕ) × (ℕ × List (Option (Held E)))))
    (coded× (coded× windows_code coded_bool)
    (coded× (coded× coded_ℕ coded_ℕ) (coded× coded_ℕ (coded_list (coded_option (held_code code))))))
    (λ w. ((w.windows, w.finished), ((w.first, w.clock), (w.weight_sum, w.held))))
    (λ p. record {
      windows = p.0.0;
      finished = p.0.1;
      first = p.1.0.0;
      clock = p.1.0.1;
      weight_sum = p.1.1.0;
      held = p.1.1.1;
    })
    (λ _. refl)
