-- What the laws of the crates below say.
use Rattle.std.proofs.Common.{◌≡◌, ℕ, ◌+◌, ◌<◌, List, [], ◌∷◌, ◌++◌, length}
use Rattle.std.specs.Prelude.{replicate}
use Rattle.chain_block.specs.declared.entry.Entry.{Entry}
use Rattle.statement.specs.declared.member.Member.{Member}
use Rattle.statement.specs.declared.statement.Statement.TheVariants as statements
use Rattle.statement.specs.declared.view_block.ViewBlock.{ViewBlock}
use Rattle.statement.specs.Config.{IsConfig}
use Rattle.port.specs.declared.key.Key.TheVariants as keys
use Rattle.port.specs.declared.store_answers.Got.{Got}
use Rattle.port.specs.Cause.{Cause}
use Rattle.port.specs.Contents.{Contents}
use Rattle.port.specs.GoodRow.{IsGoodRow}
use Rattle.port.specs.Heard.{Heard}
use Rattle.port.specs.Link.{Bank}
use Rattle.port.specs.Row.{Content}
use Rattle.port.specs.Store.{Get, WasGot, IsHonest}
use Rattle.port.specs.Trace.{Event, Had, AreHonest, AreFaithful}
use Rattle.view_ledger.specs.Receipts.{Accepts}
use Rattle.view_ledger.specs.Views.{ViewChain, newest_config, newest_tail}
use Rattle.op_parts.specs.Refresh.{Grew}
use Rattle.op_parts.specs.RefreshSays.{GaveNoView, IsRefusedAtView, IsRefusedAtFinals}
use Rattle.op_parts.specs.RefreshSound.{IsHalfway, Sound as SoundRefresh}
use Rattle.op_parts.specs.RefreshState.{RefreshState}
use Rattle.op_parts.specs.Walk.{block_tail}
use Rattle.calm.specs.Ledgers.{tail_of, row_above}
use Rattle.calm.specs.Members.{Signs, IsAt}
use Rattle.calm.specs.StandingRows.{StandRows}
use Rattle.calm.specs.StandingViews.{IsFront}
use Rattle.calm.specs.Reading.{WereRead, read_by, HasSaid}
use Rattle.calm.specs.Refreshing.{ReadyRefresh}
use Rattle.calm.specs.Storing.{GivesRow}
use Rattle.calm.specs.Calm.{ServiceState, IsCalm}
use Rattle.calm_latest.proofs.Votes.{FewLaw}

pub record Laws : Type 0 where
  -- of members
  pub few : FewLaw
  pub config : (service : ServiceState) → IsCalm service → IsConfig (newest_config service.configs)
  pub only : (service : ServiceState) (left asked : ℕ) (handle nonce : List ℕ) (events : List Event) (after : Bank)
      → IsCalm service → service.left ≡ left + 1 → WereRead handle nonce (newest_config service.configs) asked events → AreFaithful service.signs service.bank events after
      → (place : ℕ) (member : Member) (heard : Heard) → IsAt (newest_config service.configs) place member → Had events (read_by handle nonce member.id heard)
      → HasSaid service.accepts member (statements.Latest (newest_tail service.configs) handle (tail_of (service.ledgers handle)) (length (service.ledgers handle)) nonce) heard
  pub unstored : (service : ServiceState) (asked : ℕ) (handle nonce : List ℕ) (events : List Event) (contents later : Contents)
      → IsCalm service → WereRead handle nonce (newest_config service.configs) asked events → AreHonest contents events later → later ≡ contents
  pub calm : (service : ServiceState) (left : ℕ) (handle nonce : List ℕ) (events : List Event) (after : Bank)
      → IsCalm service → service.left ≡ left + 1 → WereRead handle nonce (newest_config service.configs) (length (newest_config service.configs)) events
      → AreFaithful service.signs service.bank events after → IsCalm (record service { bank = after; left = left })
  -- of lists of calls and of entries
  pub split_store : (contents after : Contents) (newer older : List Event) → AreHonest contents (newer ++ older) after
      → (middle : Contents) × AreHonest contents older middle × AreHonest middle newer after
  pub split_link : (signs : Signs) (bank after : Bank) (newer older : List Event) → AreFaithful signs bank (newer ++ older) after
      → (middle : Bank) × AreFaithful signs bank older middle × AreFaithful signs middle newer after
  pub at : (entries : List Entry) (height : ℕ) → height < length entries
      → (below : List Entry) × (entry : Entry) × (above : List Entry) × (entries ≡ below ++ entry ∷ above) × (length below ≡ height)
  pub tail : (below : List Entry) (entry : Entry) → tail_of (below ++ entry ∷ []) ≡ block_tail (row_above below entry).metablock
  pub no_tail : tail_of [] ≡ replicate 32 0
  -- of refreshes
  pub front : (refresh : ReadyRefresh) (chain : ViewChain) (state : RefreshState) (past : List Event) (later : Contents)
      → SoundRefresh refresh.accepts refresh.from state chain past → AreHonest refresh.contents past later → IsFront refresh.roster refresh.configs chain
  pub all : (refresh : ReadyRefresh) (chain : ViewChain) (past : List Event) (event : Event) (later : Contents)
      → Grew refresh.accepts refresh.from past chain → GaveNoView (length chain.configs) event → AreHonest refresh.contents (event ∷ past) later
      → chain ≡ record { roster = refresh.roster; configs = refresh.configs }
  pub same : (refresh : ReadyRefresh) (chain : ViewChain) (past : List Event) (event : Event) (later : Contents)
      → Grew refresh.accepts refresh.from past chain → GaveNoView (length chain.configs) event → AreHonest refresh.contents (event ∷ past) later
      → later ≡ refresh.contents
  pub unasked : (accepts : Accepts) (signs : Signs) (bank after : Bank) (from chain : ViewChain) (past : List Event) (event : Event)
      → Grew accepts from past chain → GaveNoView (length chain.configs) event → AreFaithful signs bank (event ∷ past) after → after ≡ bank
  pub view_stays : (refresh : ReadyRefresh) (chain : ViewChain) (past : List Event) (event : Event) (later : Contents) (cause : Cause)
      → Grew refresh.accepts refresh.from past chain → AreHonest refresh.contents (event ∷ past) later → IsRefusedAtView (length chain.configs) event cause → ⊥
  pub finals_stay : (refresh : ReadyRefresh) (chain : ViewChain) (body : List ℕ) (block : ViewBlock) (config : List Member) (past : List Event) (event : Event) (later : Contents) (cause : Cause)
      → IsHalfway refresh.accepts refresh.from body block config chain past → AreHonest refresh.contents (event ∷ past) later
      → IsRefusedAtFinals refresh.accepts chain body block config event cause → ⊥
  -- of rows
  pub row : (accepts : Accepts) (configs : List (List Member)) (contents after : Contents) (handle : List ℕ) (entries below above : List Entry) (entry : Entry) (got : Got)
      → StandRows accepts configs contents handle entries → entries ≡ below ++ entry ∷ above
      → IsHonest contents (Get (keys.Row handle (length below))) (WasGot got) after → GivesRow accepts configs handle below entry got
  pub one : (below : List Entry) (entry : Entry) (handle bytes : List ℕ) (row : Content)
      → IsGoodRow handle (length below) bytes (row_above below entry) → IsGoodRow handle (length below) bytes row → row ≡ row_above below entry
