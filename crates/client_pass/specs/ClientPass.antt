-- What contracts see of a client's pass.
use Rattle.std.specs.Prelude.{◌≡◌, ℕ, ◌+◌, ◌-◌, ◌<◌, List, [], ◌∷◌, ◌++◌, take}
use Rattle.std.specs.List.{All}
use Rattle.view_ledger.specs.Views.{ViewChain}
use Rattle.client_pass.specs.Act.{Act, Line, line}
use Rattle.client_pass.specs.ClientList.{stamps_of, chain_after}

-- the client's number, its checker, the chain that it began with and the chain so far, its lines, and how many stamps
-- the pass has left
pub record ClientPass (C : Type 0) : Type 0 where
  pub client : ℕ
  pub checker : C
  pub first : ViewChain
  pub chain : ViewChain
  pub lines : List Line
  pub left : ℕ

-- the views of a chain up to the one of this number
abbrev pub up_to : ℕ → ViewChain → ViewChain
up_to number chain = record chain { configs = take (number + 1) chain.configs }

-- one act was noted at the end of the lines, with a stamp above those of all lines before
pub record Notes {C : Type 0} (old new : ClientPass C) (act : Act) : Type 0 where
  pub stamp : ℕ
  pub above : All (λ earlier. earlier < stamp) (stamps_of old.lines)
  pub noted : new ≡ record old { chain = chain_after old.chain act; lines = old.lines ++ line stamp act ∷ []; left = old.left - 1 }
