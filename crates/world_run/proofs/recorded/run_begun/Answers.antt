use Rattle.std.proofs.Common.{rules, ◌∙◌, sym, ap, subst, [], List}
use Rattle.fault_script.specs.Command.{Command}
use Rattle.fault_script.specs.Seen.{commands_of}
use Rattle.statement.specs.Config.{ids as ids_of}
use Rattle.view_ledger.specs.Receipts.{Accepts}
use Rattle.world_run.specs.Printing.{RanAndPut, RanFrontAndPut, Wrote, WroteFront}
use Rattle.script_runs.specs.Begins.{first_ids}
use Rattle.script_runs.specs.Runs.{AllCanRun}
use Rattle.script_runs.specs.Ids.{all_ids}
use Rattle.script_runs.specs.Roster.{all_members}
use Rattle.world_run.proofs.Genesis.{ids_of_members}
use Rattle.world_run.proofs.RunEnds.{all_put, all_recorded, can_run, front_put, made_record, roster_by}
use Rattle.world_run.proofs.RunLines.{first_same}
use Rattle.world_run.proofs.recorded.run_begun.Goals as goal

pub run_lines-requires-clause-members : goal.run_lines-requires-clause-members
run_lines-requires-clause-members g c = ap ids_of c.requires.members ∙ ids_of_members (g.M.Seals.key_of c.args.seals.now) all_ids

pub run_lines-requires-clause-can_run : goal.run_lines-requires-clause-can_run
run_lines-requires-clause-can_run g c = subst (λ (commands : List Command). AllCanRun commands) (sym c.lines.ensures.lines) (can_run [] c.args.script.now c.lines.ensures.fits)

pub returns-in_err-run_lines-clause-write : goal.returns-in_err-run_lines-clause-write
returns-in_err-run_lines-clause-write g c = λ sink.
    let failed = c.in_err-run_lines.ensures.write (search rules) in (
      failed.0,
      front_put g.M.Scheme.Signer.Signer.key_of g.M.Scheme.Signer.Signer.left_of g.M.Scheme.Signer.Signer.size_of g.M.Scheme.Signer.Signer.signs g.M.Scheme.Scheme.fits g.M.Scheme.Checker.Checker.accepts (g.M.Seals.key_of c.args.seals.now) (g.M.Seals.left_of c.args.seals.now) (g.M.Seals.accepts c.args.seals.now) c.args.script.now (commands_of c.lines.result.now) c.lines.ensures.lines c.lines.ensures.fits c.args.begun.world c.requires.begins
          (record {
            whole = λ made printed did. c.plain_scripts_get_plain_replies.ensures.whole (g.M.Seals.key_of c.args.seals.now) (g.M.Seals.left_of c.args.seals.now) (g.M.Seals.accepts c.args.seals.now) (g.M.Seals.texts_of c.args.seals.now) c.args.script.now made printed
                (record { each = c.lines.ensures.each; count = c.lines.ensures.count; news = c.lines.ensures.news; no_collision = c.requires.no_collision }) did;
            front = λ printed did. c.plain_scripts_get_plain_replies.ensures.front (g.M.Seals.key_of c.args.seals.now) (g.M.Seals.left_of c.args.seals.now) (g.M.Seals.accepts c.args.seals.now) (g.M.Seals.texts_of c.args.seals.now) c.args.script.now printed
                (record { each = c.lines.ensures.each; count = c.lines.ensures.count; news = c.lines.ensures.news; no_collision = c.requires.no_collision }) did;
          })
          (c.runs_belong_to_scripts.ensures (g.M.Seals.key_of c.args.seals.now) (g.M.Seals.left_of c.args.seals.now) (g.M.Seals.accepts c.args.seals.now))
          (WroteFront (g.K.Sink.written c.args.sink.now) (g.K.Sink.written c.run_lines.new.sink))
          (subst (λ (agreed : Accepts). RanFrontAndPut g.M.Scheme.Signer.Signer.key_of g.M.Scheme.Signer.Signer.left_of g.M.Scheme.Signer.Signer.size_of g.M.Scheme.Signer.Signer.signs g.M.Scheme.Scheme.fits g.M.Scheme.Checker.Checker.accepts (g.M.Seals.key_of c.args.seals.now) (g.M.Seals.left_of c.args.seals.now) agreed (commands_of c.lines.result.now) c.args.begun.world (WroteFront (g.K.Sink.written c.args.sink.now) (g.K.Sink.written c.run_lines.new.sink))) c.requires.accepts failed.1),
    )

pub returns-in_err-run_lines-clause-no_memory : goal.returns-in_err-run_lines-clause-no_memory
returns-in_err-run_lines-clause-no_memory g c = λ none.
    front_put g.M.Scheme.Signer.Signer.key_of g.M.Scheme.Signer.Signer.left_of g.M.Scheme.Signer.Signer.size_of g.M.Scheme.Signer.Signer.signs g.M.Scheme.Scheme.fits g.M.Scheme.Checker.Checker.accepts (g.M.Seals.key_of c.args.seals.now) (g.M.Seals.left_of c.args.seals.now) (g.M.Seals.accepts c.args.seals.now) c.args.script.now (commands_of c.lines.result.now) c.lines.ensures.lines c.lines.ensures.fits c.args.begun.world c.requires.begins
    (record {
      whole = λ made printed did. c.plain_scripts_get_plain_replies.ensures.whole (g.M.Seals.key_of c.args.seals.now) (g.M.Seals.left_of c.args.seals.now) (g.M.Seals.accepts c.args.seals.now) (g.M.Seals.texts_of c.args.seals.now) c.args.script.now made printed
          (record { each = c.lines.ensures.each; count = c.lines.ensures.count; news = c.lines.ensures.news; no_collision = c.requires.no_collision }) did;
      front = λ printed did. c.plain_scripts_get_plain_replies.ensures.front (g.M.Seals.key_of c.args.seals.now) (g.M.Seals.left_of c.args.seals.now) (g.M.Seals.accepts c.args.seals.now) (g.M.Seals.texts_of c.args.seals.now) c.args.script.now printed
          (record { each = c.lines.ensures.each; count = c.lines.ensures.count; news = c.lines.ensures.news; no_collision = c.requires.no_collision }) did;
    })
    (c.runs_belong_to_scripts.ensures (g.M.Seals.key_of c.args.seals.now) (g.M.Seals.left_of c.args.seals.now) (g.M.Seals.accepts c.args.seals.now))
    (Wrote (g.K.Sink.written c.args.sink.now) (g.K.Sink.written c.run_lines.new.sink))
    (subst (λ (agreed : Accepts). RanFrontAndPut g.M.Scheme.Signer.Signer.key_of g.M.Scheme.Signer.Signer.left_of g.M.Scheme.Signer.Signer.size_of g.M.Scheme.Signer.Signer.signs g.M.Scheme.Scheme.fits g.M.Scheme.Checker.Checker.accepts (g.M.Seals.key_of c.args.seals.now) (g.M.Seals.left_of c.args.seals.now) agreed (commands_of c.lines.result.now) c.args.begun.world (Wrote (g.K.Sink.written c.args.sink.now) (g.K.Sink.written c.run_lines.new.sink))) c.requires.accepts (c.in_err-run_lines.ensures.no_memory (search rules)))

pub returns-in_err-recorded-clause-no_memory : goal.returns-in_err-recorded-clause-no_memory
returns-in_err-recorded-clause-no_memory g c = λ none.
    all_put g.M.Scheme.Signer.Signer.key_of g.M.Scheme.Signer.Signer.left_of g.M.Scheme.Signer.Signer.size_of g.M.Scheme.Signer.Signer.signs g.M.Scheme.Scheme.fits g.M.Scheme.Checker.Checker.accepts (g.M.Seals.key_of c.args.seals.now) (g.M.Seals.left_of c.args.seals.now) (g.M.Seals.accepts c.args.seals.now) c.args.script.now (commands_of c.lines.result.now) c.lines.ensures.lines c.lines.ensures.fits c.args.begun.world c.requires.begins
    (record {
      whole = λ made printed did. c.plain_scripts_get_plain_replies.ensures.whole (g.M.Seals.key_of c.args.seals.now) (g.M.Seals.left_of c.args.seals.now) (g.M.Seals.accepts c.args.seals.now) (g.M.Seals.texts_of c.args.seals.now) c.args.script.now made printed
          (record { each = c.lines.ensures.each; count = c.lines.ensures.count; news = c.lines.ensures.news; no_collision = c.requires.no_collision }) did;
      front = λ printed did. c.plain_scripts_get_plain_replies.ensures.front (g.M.Seals.key_of c.args.seals.now) (g.M.Seals.left_of c.args.seals.now) (g.M.Seals.accepts c.args.seals.now) (g.M.Seals.texts_of c.args.seals.now) c.args.script.now printed
          (record { each = c.lines.ensures.each; count = c.lines.ensures.count; news = c.lines.ensures.news; no_collision = c.requires.no_collision }) did;
    })
    (c.runs_belong_to_scripts.ensures (g.M.Seals.key_of c.args.seals.now) (g.M.Seals.left_of c.args.seals.now) (g.M.Seals.accepts c.args.seals.now))
    c.run_lines.new.world (Wrote (g.K.Sink.written c.args.sink.now) (g.K.Sink.written c.run_lines.new.sink))
    (subst (λ (agreed : Accepts). RanAndPut g.M.Scheme.Signer.Signer.key_of g.M.Scheme.Signer.Signer.left_of g.M.Scheme.Signer.Signer.size_of g.M.Scheme.Signer.Signer.signs g.M.Scheme.Scheme.fits g.M.Scheme.Checker.Checker.accepts (g.M.Seals.key_of c.args.seals.now) (g.M.Seals.left_of c.args.seals.now) agreed (commands_of c.lines.result.now) c.args.begun.world c.run_lines.new.world (Wrote (g.K.Sink.written c.args.sink.now) (g.K.Sink.written c.run_lines.new.sink))) c.requires.accepts c.in_ok-run_lines.ensures.ran)

pub returns-clause-record : goal.returns-clause-record
returns-clause-record g c =
    made_record (g.M.Seals.key_of c.args.seals.now) (first_ids c.args.script.now) c.args.begun.roster.items g.N.RunName.members c.args.begun.genesis g.N.RunName.accepts (g.M.Seals.accepts c.args.seals.now) c.run_lines.new.world.first c.in_ok-recorded.field-0
    c.requires.members c.requires.accepts c.requires.keys c.requires.roster c.requires.genesis c.requires.genuine
    (first_same g.M.Scheme.Signer.Signer.key_of g.M.Scheme.Signer.Signer.left_of g.M.Scheme.Signer.Signer.size_of g.M.Scheme.Signer.Signer.signs g.M.Scheme.Scheme.fits g.M.Scheme.Checker.Checker.accepts (g.M.Seals.key_of c.args.seals.now) (g.M.Seals.left_of c.args.seals.now) g.N.RunName.accepts (commands_of c.lines.result.now) c.args.begun.world c.run_lines.new.world c.in_ok-run_lines.ensures.ran.0 c.in_ok-run_lines.ensures.ran.1
    ∙ c.requires.begins.unbegun.first
    ∙ c.requires.begins.chain)
    c.in_ok-recorded.ensures.record

pub returns-clause-ran : goal.returns-clause-ran
returns-clause-ran g c =
    all_recorded g.M.Scheme.Signer.Signer.key_of g.M.Scheme.Signer.Signer.left_of g.M.Scheme.Signer.Signer.size_of g.M.Scheme.Signer.Signer.signs g.M.Scheme.Scheme.fits g.M.Scheme.Checker.Checker.accepts (g.M.Seals.key_of c.args.seals.now) (g.M.Seals.left_of c.args.seals.now) (g.M.Seals.accepts c.args.seals.now) c.args.script.now (commands_of c.lines.result.now) c.lines.ensures.lines c.lines.ensures.fits c.args.begun.world c.requires.begins
    (record {
      whole = λ made printed did. c.plain_scripts_get_plain_replies.ensures.whole (g.M.Seals.key_of c.args.seals.now) (g.M.Seals.left_of c.args.seals.now) (g.M.Seals.accepts c.args.seals.now) (g.M.Seals.texts_of c.args.seals.now) c.args.script.now made printed
          (record { each = c.lines.ensures.each; count = c.lines.ensures.count; news = c.lines.ensures.news; no_collision = c.requires.no_collision }) did;
      front = λ printed did. c.plain_scripts_get_plain_replies.ensures.front (g.M.Seals.key_of c.args.seals.now) (g.M.Seals.left_of c.args.seals.now) (g.M.Seals.accepts c.args.seals.now) (g.M.Seals.texts_of c.args.seals.now) c.args.script.now printed
          (record { each = c.lines.ensures.each; count = c.lines.ensures.count; news = c.lines.ensures.news; no_collision = c.requires.no_collision }) did;
    })
    (c.runs_belong_to_scripts.ensures (g.M.Seals.key_of c.args.seals.now) (g.M.Seals.left_of c.args.seals.now) (g.M.Seals.accepts c.args.seals.now))
    c.run_lines.new.world c.in_ok-recorded.field-0 (Wrote (g.K.Sink.written c.args.sink.now) (g.K.Sink.written c.run_lines.new.sink))
    (subst (λ (agreed : Accepts). RanAndPut g.M.Scheme.Signer.Signer.key_of g.M.Scheme.Signer.Signer.left_of g.M.Scheme.Signer.Signer.size_of g.M.Scheme.Signer.Signer.signs g.M.Scheme.Scheme.fits g.M.Scheme.Checker.Checker.accepts (g.M.Seals.key_of c.args.seals.now) (g.M.Seals.left_of c.args.seals.now) agreed (commands_of c.lines.result.now) c.args.begun.world c.run_lines.new.world (Wrote (g.K.Sink.written c.args.sink.now) (g.K.Sink.written c.run_lines.new.sink))) c.requires.accepts c.in_ok-run_lines.ensures.ran)
    (roster_by g.M.Scheme.Signer.Signer.key_of g.M.Scheme.Checker.Checker.accepts g.N.RunName.members (all_members (g.M.Seals.key_of c.args.seals.now)) g.N.RunName.accepts (g.M.Seals.accepts c.args.seals.now) c.run_lines.new.world.state.link c.requires.members c.requires.accepts c.calls_are_kept.ensures.roster)
    c.calls_are_kept.ensures.served
    c.in_ok-recorded.ensures.cells c.in_ok-recorded.ensures.passes g.N.RunName.members c.requires.members c.in_ok-recorded.ensures.call_stamps c.in_ok-recorded.ensures.act_stamps (c.in_ok-recorded.ensures.roster ∙ c.requires.roster) (c.in_ok-recorded.ensures.genesis ∙ c.requires.genesis)
