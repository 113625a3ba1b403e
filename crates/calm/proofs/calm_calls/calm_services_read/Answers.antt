use Rattle.std.proofs.Common.{◌+◌, ◌≡◌, ℕ, List, length, sym, subst}
use Rattle.statement.specs.declared.statement.Statement.TheVariants as statements
use Rattle.statement.specs.Config.{IsConfig}
use Rattle.view_ledger.specs.Views.{newest_config}
use Rattle.calm.specs.Ledgers.{tail_of}
use Rattle.calm.specs.Answering.{read_of}
use Rattle.calm.specs.Reading.{ReadyRead, HasSaid, DidSay}
use Rattle.calm.specs.Calm.{newest_block, ServiceState, NewestHold, IsCalm}
use Rattle.calm.proofs.MemberReads.{no_store}
use Rattle.calm.proofs.calm_calls.calm_services_read.Goals as goal

read : (service : ServiceState) (left : ℕ) (handle nonce : List ℕ) → IsConfig (newest_config service.configs) → IsCalm service → service.left ≡ left + 1 → ReadyRead
read service left handle nonce config calm one_more = record {
  accepts = service.accepts;
  signs = service.signs;
  bank = service.bank;
  view = newest_block service.configs;
  config = newest_config service.configs;
  rows = service.rows;
  left = left;
  handle = handle;
  nonce = nonce;
  fits = calm.fits;
  is_config = config;
  able = subst (λ (n : ℕ). NewestHold service.configs service.bank service.rows n) one_more calm.members;
}

pub returns-clause-said : goal.returns-clause-said
unfolding read
returns-clause-said c = λ service left asked handle nonce events after calm one_more were faithful place member below is.
    let config = c.calm_members_are_ready.ensures.config service calm in
    let tail = c.calm_members_are_ready.ensures.tail service.configs calm.views.some in
    let did = c.reads_are_signed_alike.ensures.each (read service left handle nonce config calm one_more) asked events after were faithful place member below is in
    subst (λ (v : List ℕ). DidSay service.accepts handle nonce member (statements.Latest v handle (tail_of (service.ledgers handle)) (length (service.ledgers handle)) nonce) events) (sym tail)
    (subst (λ (r : List ℕ × ℕ). DidSay service.accepts handle nonce member (read_of (newest_block service.configs) handle nonce r) events) (calm.map.each handle) did)

pub returns-clause-calm : goal.returns-clause-calm
unfolding read
returns-clause-calm c = λ service left handle nonce events after calm one_more were faithful.
    let config = c.calm_members_are_ready.ensures.config service calm in
    c.calm_services_go_on.ensures.same service after left calm (c.reads_are_signed_alike.ensures.all (read service left handle nonce config calm one_more) events after were faithful)

pub returns-clause-only : goal.returns-clause-only
unfolding read
returns-clause-only c = λ service left asked handle nonce events after calm one_more were faithful place member heard is had.
    let config = c.calm_members_are_ready.ensures.config service calm in
    let tail = c.calm_members_are_ready.ensures.tail service.configs calm.views.some in
    let said = c.reads_are_signed_alike.ensures.only (read service left handle nonce config calm one_more) asked events after were faithful place member heard is had in
    subst (λ (v : List ℕ). HasSaid service.accepts member (statements.Latest v handle (tail_of (service.ledgers handle)) (length (service.ledgers handle)) nonce) heard) (sym tail)
    (subst (λ (r : List ℕ × ℕ). HasSaid service.accepts member (read_of (newest_block service.configs) handle nonce r) heard) (calm.map.each handle) said)

pub returns-clause-same : goal.returns-clause-same
returns-clause-same c = λ service asked handle nonce events contents later calm were honest. no_store (newest_config service.configs) handle nonce asked events contents later were honest
