-- What a refresh answers where all views stand.
use Rattle.std.specs.Prelude.{◌≡◌, List, Result, Ok, Err}
use Rattle.nim_base.specs.declared.no_memory.NoMemory.{NoMemory}
use Rattle.statement.specs.declared.member.Member.{Member}
use Rattle.port.specs.Contents.{Contents}
use Rattle.view_ledger.specs.Views.{ViewChain}
use Rattle.view_ledger.specs.Receipts.{Accepts}
use Rattle.op_parts.specs.declared.refresh_turn.RefreshProgress.{RefreshProgress}
use Rattle.op_parts.specs.declared.refresh_turn.RefreshProgress.TheVariants.{More, Fresh, Refused}
use Rattle.calm.specs.StandingViews.{StandViews, IsFront}

-- it goes on, or the chain has all the views, or memory was wanted; it isn't refused
abbrev pub FindsAll : List Member → List (List Member) → ViewChain → Result RefreshProgress NoMemory → Type 0
FindsAll roster configs chain (Ok More) = IsFront roster configs chain
FindsAll roster configs chain (Ok Fresh) = chain ≡ record { roster = roster; configs = configs }
FindsAll roster configs chain (Ok (Refused refusal)) = ⊥
FindsAll roster configs chain (Err wanted) = IsFront roster configs chain

-- A refresh is ready: all views stand, and its chain has the first of them.
pub record ReadyRefresh : Type 0 where
  pub accepts : Accepts
  pub roster : List Member
  pub contents : Contents
  pub configs : List (List Member)
  pub from : ViewChain
  pub stand : StandViews accepts roster contents configs
  pub front : IsFront roster configs from
