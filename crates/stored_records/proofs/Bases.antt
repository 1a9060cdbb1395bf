-- The last team before a gameweek, gameweek by gameweek.
use Rattle.std.proofs.Common.{◌≡◌, ℕ, suc, ◌+◌, ◌-◌, ◌<◌, Option, arith, ap, ◌∙◌}
use Rattle.std.specs.Option.{option_or}
use Rattle.stored_records.specs.declared.entry_told.RecordedTeam.{RecordedTeam}
use Rattle.stored_records.specs.Sequels.{lasting, last_before}

pub one_before : (teams : ℕ → Option RecordedTeam) (g back : ℕ) → back < g
    → last_before teams (g - back) ≡ option_or (lasting (teams (g - 1 - back))) (last_before teams (g - (back + 1)))
one_before teams g back less =
    let here : g - back ≡ suc (g - 1 - back) = omega arith in
    let same : g - 1 - back ≡ g - (back + 1) = omega arith in
    ap (last_before teams) here ∙ ap (λ h. option_or (lasting (teams (g - 1 - back))) (last_before teams h)) same
