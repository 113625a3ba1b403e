-- The endorser's table: what each call does in each phase.
use Rattle.std.specs.Prelude.{ℕ, ◌+◌, ◌^◌, ◌==◌, ◌&&◌, ◌||◌, not, nat_lt, Bool, if◌then◌else◌, List, [], ◌∷◌, length, replicate, bytes_eq, Option, Some, None, is_none}
use Rattle.std.specs.List.{list_any}
use Rattle.std.specs.Cmp.Lexicographic.{pointwise}
use Rattle.sha2.specs.Sha256.{sha256}
use Rattle.chain_block.specs.Tail.{tail_after}
use Rattle.tail_map.specs.declared.tail_row.TailRow.{TailRow}
use Rattle.tail_map.specs.TailMap.{get, set, has_handle}
use Rattle.tail_map.specs.MapForm.{map_bytes}
use Rattle.statement.specs.declared.member.Member.{Member}
use Rattle.statement.specs.declared.view_block.ViewBlock.{ViewBlock}
use Rattle.statement.specs.declared.statement.Statement.{Statement}
use Rattle.statement.specs.declared.statement.Statement.TheVariants as statements
use Rattle.statement.specs.ConfigForm.{config_bytes}
use Rattle.statement.specs.ViewBlock.{view_block_bytes}
use Rattle.statement.specs.ViewTail.{view_tail_after}
use Rattle.port.specs.declared.phase.Phase.TheVariants as phases
use Rattle.port.specs.declared.proof_cause.ProofCause.TheVariants as causes
use Rattle.port.specs.View.{ActivationProof}
use Rattle.port.specs.Call.{Call, Initialize, Activate, Append, Latest, Finalize, Show}
use Rattle.port.specs.Answer.{Denial, Behind, Stands, OtherTail, NotGenesis, Full, Tall, NotMember, BadView, BadProof, WrongPhase, HasEnded, OtherNext, Spent, Answer, Done, Signed, Finaled, Shown, Refused}

-- what an endorser holds of its view: the view block, the members of the config, the digest of the map that it began
-- with, and the map
pub record View : Type 0 where
  pub block : ViewBlock
  pub config : List Member
  pub first : List ℕ
  pub map : List TailRow

-- how it ended its view: the statement, its signature, and the tail of the next view
pub record Ending : Type 0 where
  pub statement : Statement
  pub sig : List ℕ
  pub next : List ℕ

-- an endorser's state, by its phase
pub data State : Type 0 where
  Uninitialized : State
  Initialized : View → State
  Active : View → State
  Finalized : View → Ending → State

-- A cell has a state and an answer, or a statement to be signed, and with its signature a state and an answer.
pub data Cell : Type 0 where
  Answers : State → Answer → Cell
  Signs : Statement → (List ℕ → State) → (List ℕ → Answer) → Cell

-- a refusal changes nothing
abbrev pub refuses : State → Denial → Cell
refuses state denial = Answers state (Refused denial)

abbrev pub own_tail : View → List ℕ
own_tail view = sha256 (view_block_bytes view.block)

abbrev pub is_same_block : ViewBlock → ViewBlock → Bool
is_same_block a b = bytes_eq a.prev b.prev && bytes_eq a.config b.config && (a.number == b.number)

abbrev pub is_same_member : Member → Member → Bool
is_same_member a b = (a.id == b.id) && bytes_eq a.key b.key

-- the same view block, the same config, and a map with the digest of the first one
abbrev pub is_same : View → ViewBlock → List Member → List TailRow → Bool
is_same view block config map =
    is_same_block block view.block && pointwise is_same_member config view.config && bytes_eq (sha256 (map_bytes map)) view.first

abbrev pub is_in : Member → List Member → Bool
is_in me config = list_any (λ member. is_same_member member me) config

-- Initialize while Uninitialized
abbrev pub initializes : Member → ViewBlock → List Member → List TailRow → Cell
initializes me block config map =
    -- until views follow each other: only view 0
    if not (block.number == 0) then refuses Uninitialized BadView
    else (if not (bytes_eq (sha256 (config_bytes config)) block.config) then refuses Uninitialized BadView
    else (if not (is_in me config) then refuses Uninitialized NotMember
    else Answers (Initialized (record { block = block; config = config; first = sha256 (map_bytes map); map = map })) Done))

-- Activate while Initialized
abbrev pub activates : View → List ℕ → Option ActivationProof → Cell
activates own view proof =
    if not (bytes_eq view (own_tail own)) then refuses (Initialized own) BadView
    -- until views follow each other: view 0 begins with no proof, on no view and with an empty map
    else (if not ((own.block.number == 0) && is_none proof && bytes_eq own.block.prev (replicate 32 0) && (length own.map == 0)) then refuses (Initialized own) (BadProof causes.First)
    else Answers (Active own) Done)

abbrev pub held : View → List ℕ → List ℕ → ℕ → Statement
held own handle tail count = statements.Held (own_tail own) handle tail count

-- signs that the ledger has this tail and count
abbrev pub signs_held : View → View → List ℕ → List ℕ → ℕ → Cell
signs_held own next handle tail count = Signs (held own handle tail count) (λ sig. Active next) (λ sig. Signed (held own handle tail count) sig)

-- Append while Active, where the ledger has this tail and count
abbrev pub appends : View → List ℕ → List ℕ → List ℕ → ℕ → List ℕ → ℕ → Cell
appends own handle prev entry height tail count =
    if nat_lt count height then refuses (Active own) (Behind count)
    else (if nat_lt height count then
    (if (count == height + 1) && bytes_eq tail (tail_after prev entry height) then signs_held own own handle tail count
    else refuses (Active own) (Stands count tail))
    else (if not (bytes_eq tail prev) then refuses (Active own) (OtherTail tail)
    else (if (height == 0) && not (bytes_eq entry handle) then refuses (Active own) NotGenesis
    else (if height == 2 ^ 32 then refuses (Active own) Tall
    else (if not (has_handle own.map handle) && (length own.map == 4096) then refuses (Active own) Full
    else (let row : TailRow = record { handle = handle; tail = tail_after prev entry height; count = height + 1 } in
    signs_held own (record own { map = set own.map row }) handle row.tail row.count))))))

-- Latest while Active, where the ledger has this tail and count
abbrev pub reads : View → List ℕ → List ℕ → List ℕ → ℕ → Cell
reads own handle nonce tail count =
    let statement : Statement = statements.Latest (own_tail own) handle tail count nonce in
    Signs statement (λ sig. Active own) (λ sig. Signed statement sig)

-- Finalize while Finalized
abbrev pub ends_again : View → Ending → List ℕ → ℕ → Cell
ends_again own ending config number =
    if bytes_eq (view_tail_after (own_tail own) config number) ending.next then Answers (Finalized own ending) (Finaled ending.statement ending.sig own.map)
    else refuses (Finalized own ending) (OtherNext ending.next)

abbrev pub has_ended : View → Ending → Cell
has_ended own ending = refuses (Finalized own ending) (HasEnded ending.statement ending.sig)

-- the table
abbrev pub cell : Member → State → Call → Cell
cell me Uninitialized (Initialize block config map) = initializes me block config map
cell me Uninitialized (Activate view proof) = refuses Uninitialized (WrongPhase phases.Uninitialized)
cell me Uninitialized (Append handle prev entry height) = refuses Uninitialized (WrongPhase phases.Uninitialized)
cell me Uninitialized (Latest handle nonce) = refuses Uninitialized (WrongPhase phases.Uninitialized)
cell me Uninitialized (Finalize config number) = refuses Uninitialized (WrongPhase phases.Uninitialized)
cell me Uninitialized (Show handle) = Answers Uninitialized (Shown phases.Uninitialized 0 (replicate 32 0) 0)
cell me (Initialized own) (Initialize block config map) =
    if is_same own block config map then Answers (Initialized own) Done else refuses (Initialized own) (WrongPhase phases.Initialized)
cell me (Initialized own) (Activate view proof) = activates own view proof
cell me (Initialized own) (Append handle prev entry height) = refuses (Initialized own) (WrongPhase phases.Initialized)
cell me (Initialized own) (Latest handle nonce) = refuses (Initialized own) (WrongPhase phases.Initialized)
cell me (Initialized own) (Finalize config number) = refuses (Initialized own) (WrongPhase phases.Initialized)
cell me (Initialized own) (Show handle) = let row = get own.map handle in Answers (Initialized own) (Shown phases.Initialized own.block.number row.0 row.1)
cell me (Active own) (Initialize block config map) =
    if is_same own block config map then Answers (Active own) Done else refuses (Active own) (WrongPhase phases.Active)
cell me (Active own) (Activate view proof) =
    if bytes_eq view (own_tail own) then Answers (Active own) Done else refuses (Active own) BadView
cell me (Active own) (Append handle prev entry height) = let row = get own.map handle in appends own handle prev entry height row.0 row.1
cell me (Active own) (Latest handle nonce) = let row = get own.map handle in reads own handle nonce row.0 row.1
-- until views follow each other: no view is ended
cell me (Active own) (Finalize config number) = refuses (Active own) BadView
cell me (Active own) (Show handle) = let row = get own.map handle in Answers (Active own) (Shown phases.Active own.block.number row.0 row.1)
cell me (Finalized own ending) (Initialize block config map) = has_ended own ending
cell me (Finalized own ending) (Activate view proof) = has_ended own ending
cell me (Finalized own ending) (Append handle prev entry height) = has_ended own ending
cell me (Finalized own ending) (Latest handle nonce) = has_ended own ending
cell me (Finalized own ending) (Finalize config number) = ends_again own ending config number
cell me (Finalized own ending) (Show handle) = let row = get own.map handle in Answers (Finalized own ending) (Shown phases.Finalized own.block.number row.0 row.1)

-- the statement that a cell asks the signer to sign
abbrev pub asked : Cell → Option Statement
asked (Answers state answer) = None
asked (Signs statement state answer) = Some statement

-- the state and the answer that a cell leads to from a state, with what the signer answered where it was asked: None
-- where it has no signature left, and then nothing changes
abbrev pub outcome : State → Cell → Option (List ℕ) → State × Answer
outcome before (Answers state answer) sig = (state, answer)
outcome before (Signs statement state answer) None = (before, Refused Spent)
outcome before (Signs statement state answer) (Some sig) = (state sig, answer sig)
