-- What a line says, as contracts see it: texts and ids are lists.
use Rattle.std.specs.Prelude.{ℕ, List}

-- a client, a label and a payload; the same with a height; a client and a label; the same with a height; ids
pub data Request : Type 0 where
  New : List ℕ → List ℕ → List ℕ → Request
  Append : List ℕ → List ℕ → ℕ → List ℕ → Request
  Latest : List ℕ → List ℕ → Request
  At : List ℕ → List ℕ → ℕ → Request
  Reconfigure : List ℕ → Request

-- Names of operations stand first. Losses are of an endorser's id and of so many calls. Lies are of a label and a
-- height, a stale one with the height that is shown in its place. What goes to an endorser directly begins with its
-- id: an append has a label, a height, a payload and the number of its nonce.
pub data Command : Type 0 where
  Genesis : List ℕ → Command
  Plain : Request → Command
  Restart : Command
  Begin : List ℕ → Request → Command
  Step : List ℕ → ℕ → Command
  Finish : List ℕ → Command
  Retry : List ℕ → Command
  LoseRequest : ℕ → ℕ → Command
  LoseReply : ℕ → ℕ → Command
  StoreFail : ℕ → Command
  StoreHide : List ℕ → ℕ → Command
  StoreStale : List ℕ → ℕ → ℕ → Command
  StoreFork : List ℕ → ℕ → Command
  StoreHonest : Command
  RawAppend : ℕ → List ℕ → ℕ → List ℕ → ℕ → Command
  RawLatest : ℕ → List ℕ → ℕ → Command
  RawShow : ℕ → List ℕ → Command
  RawFinalize : ℕ → List ℕ → Command
  Offer : List ℕ → List ℕ → Command
  Forge : List ℕ → ℕ → List ℕ → Command
  End : Command
