use Rattle.std.proofs.Common.{Bor, ◌++◌, [], List, ℕ, map, sym, ap, subst, ◌∙◌}
use Rattle.std.specs.List.{flat_map}
use Rattle.fault_script.specs.Command.{Command}
use Rattle.fault_script.specs.Seen.{commands_of}
use Rattle.world_run.specs.SetUp.{AllWithin, label_text, set_up_texts}
use Rattle.world_run.proofs.SettingUp.{fits_within, together}
use Rattle.world_run.proofs.set_up.set_up_texts.Goals as goal

pub push_first_entries-requires : goal.push_first_entries-requires
push_first_entries-requires g c =
    subst (λ (commands : List Command). AllWithin commands) (sym c.lines-lines.ensures.lines) (fits_within [] c.args.script.now c.lines-lines.ensures.fits)

pub returns : goal.returns
returns g c =
    let commands = commands_of c.lines-lines.result.now in
    together _ _ _ _ _ _ c.in_ok-texts.ensures c.in_ok-push_first_entries.ensures
    (c.in_ok-push_label_texts.ensures
    ∙ ap (λ (made : List (List ℕ)). map (λ text. text.bytes) c.push_first_entries.new.texts.items ++ flat_map (label_text made) commands) (ap (λ (labels : List (Bor (List ℕ))). map (λ one. one.now) labels) c.deref.ensures.value ∙ c.in_ok-made.ensures))
    ∙ ap (set_up_texts (g.M.Seals.texts_of c.args.seals.now)) c.lines-lines.ensures.lines
