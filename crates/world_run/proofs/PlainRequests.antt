-- A request of a plain script, whichever it is.
use Rattle.std.proofs.Common.{◌≡◌, ℕ, ◌+◌, List, [], ◌∷◌, ◌++◌}
use Rattle.fault_script.specs.Command.{Request, New, Append, Latest, At, Reconfigure, Command, Plain}
use Rattle.port.specs.Link.{LinkView}
use Rattle.view_ledger.specs.Receipts.{Accepts}
use Rattle.script_world.specs.World.{World}
use Rattle.world_run.specs.Plain.{Known, reply_to_request, after_request}
use Rattle.world_run.specs.PlainRun.{IsRunnable}
use Rattle.script_runs.specs.Runs.{Does}
use Rattle.world_run.specs.Tied.{IsTied}
use Rattle.world_run.proofs.CalmRuns.{Laws}
use Rattle.world_run.proofs.PlainReads.{at_line, newest_read}
use Rattle.world_run.proofs.PlainWrites.{append_line, new_line}

pub request_line : {L C : Type 0} (accepts : C → Accepts) (checks : Accepts) (lv : L → LinkView) → Laws accepts lv → (texts_of : ℕ → List (List ℕ)) (script before after : List Command) (request : Request) (old new : World L C) (known : Known) (place left : ℕ) (line : List ℕ)
    → IsRunnable texts_of script → script ≡ before ++ Plain request ∷ after → IsTied accepts checks lv before old known (left + 1) → Does accepts lv old new place request line
    → (line ≡ reply_to_request known request) × IsTied accepts checks lv (before ++ Plain request ∷ []) new (after_request known request) left
request_line accepts checks lv laws texts_of script before after (New client label payload) old new known place left line fits split tied did =
    new_line accepts checks lv laws texts_of script before after fits old new known place left tied client label payload line split did
request_line accepts checks lv laws texts_of script before after (Append client label height payload) old new known place left line fits split tied did =
    append_line accepts checks lv laws texts_of script before after fits old new known place left tied client label height payload line split did
request_line accepts checks lv laws texts_of script before after (Latest client label) old new known place left line fits split tied did =
    newest_read accepts checks lv laws texts_of script before after fits old new known place left tied client label line split did
request_line accepts checks lv laws texts_of script before after (At client label height) old new known place left line fits split tied did =
    at_line accepts checks lv laws texts_of script before after fits old new known place left tied client label height line split did
request_line accepts checks lv laws texts_of script before after (Reconfigure ids) old new known place left line fits split tied did = absurd did
