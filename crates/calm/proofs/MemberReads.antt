-- Members that are asked for their newest entry, one after the other.
use Rattle.std.proofs.Common.{◌≡◌, ◌≢◌, inl, inr, ℕ, zero, suc, ◌+◌, ◌<◌, ◌≤◌, ltb, List, ◌∷◌, slice_get, Some, refl, sym, subst, ap, ◌∙◌, arith}
use Rattle.std.proofs.lemmas.Bool.{cases_Bool, ltb-true, ltb-false}
use Rattle.tail_map.specs.declared.tail_row.TailRow.{TailRow}
use Rattle.tail_map.specs.TailMap.{get}
use Rattle.statement.specs.declared.member.Member.{Member}
use Rattle.statement.specs.declared.view_block.ViewBlock.{ViewBlock}
use Rattle.statement.specs.Config.{IsConfig}
use Rattle.statement.specs.Statement.{statement_bytes}
use Rattle.port.specs.Call.{Latest}
use Rattle.port.specs.Contents.{Contents}
use Rattle.port.specs.Heard.{Heard, NoMemory}
use Rattle.port.specs.Link.{Bank, IsFaithful}
use Rattle.port.specs.Trace.{Event, AtStore, AtLink, Had, AreHonest, AreFaithful}
use Rattle.view_ledger.specs.Receipts.{Accepts}
use Rattle.calm.specs.Members.{Signs, Fits, IsAt, AreAble, WereAsked}
use Rattle.calm.specs.Answering.{read_of}
use Rattle.calm.specs.Reading.{read_by, WereRead, HasSaid, DidSay}
use Rattle.calm.proofs.OneAnswer.{Asked}
use Rattle.calm.proofs.MemberAnswers.{latest_signs, latest_same}
use Rattle.calm.proofs.Rounds.{rise, none_asked, still_able, one_more}

abbrev id_in : Event → ℕ → ℕ
id_in (AtStore call answer) other = other
id_in (AtLink id call heard) other = id

abbrev heard_in : Event → Heard → Heard
heard_in (AtStore call answer) other = other
heard_in (AtLink id call heard) other = heard

pub no_store : (config : List Member) (handle nonce : List ℕ) (asked : ℕ) (events : List Event) (contents after : Contents) → WereRead handle nonce config asked events → AreHonest contents events after → after ≡ contents
no_store config handle nonce zero events contents after were honest = subst (λ (e : List Event). AreHonest contents e after) were honest
no_store config handle nonce (suc n) events contents after were honest =
    no_store config handle nonce n were.2 contents after were.6 (subst (λ (e : List Event). AreHonest contents e after) were.4 honest)

module _ (accepts : Accepts) (signs : Signs) (bank : Bank) (view : ViewBlock) (config : List Member) (rows : List TailRow) (left : ℕ) (handle nonce : List ℕ)
    (fits : Fits accepts signs) (is_config : IsConfig config) (able : AreAble bank view config rows (left + 1)) where
  abbrev Said : Member → Heard → Type 0
  Said member heard = HasSaid accepts member (read_of view handle nonce (get rows handle)) heard

  abbrev Did : Member → List Event → Type 0
  Did member events = DidSay accepts handle nonce member (read_of view handle nonce (get rows handle)) events

  pub record Read (asked : ℕ) (events : List Event) (after : Bank) : Type 0 where
    pub were : WereAsked bank view config rows left asked after
    pub each : (place : ℕ) (member : Member) → place < asked → IsAt config place member → Did member events
    pub only : (place : ℕ) (member : Member) (heard : Heard) → IsAt config place member → Had events (read_by handle nonce member.id heard) → Said member heard

  said : (b after : Bank) (member : Member) (heard : Heard) → Asked signs b view config rows (left + 1) member (Latest handle nonce) heard after → Said member heard
  said b after member heard was =
      let did = latest_signs signs b after view config rows left member handle nonce heard was in
      record { sig = did.sig; answered = did.answered; accepted = fits member.key (statement_bytes (read_of view handle nonce (get rows handle))) did.sig did.signed }

  -- two members with one id are one
  one_member : (place other : ℕ) (member one : Member) → IsAt config place member → IsAt config other one → member.id ≡ one.id → member ≡ one
  one_member place other member one is is' same =
      elim (cases_Bool (ltb place other)) [
        | inl less ↦ let below = rise _ config place other member one is_config.rising (ltb-true place other less) is is' in absurd (omega (arith, below, same))
        | inr not_less ↦
            elim (cases_Bool (ltb other place)) [
              | inl more ↦ let below = rise _ config other place one member is_config.rising (ltb-true other place more) is' is in absurd (omega (arith, below, same))
              | inr not_more ↦
                  let a : other ≤ place = ltb-false place other not_less in
                  let b : place ≤ other = ltb-false other place not_more in
                  let here : place ≡ other = omega (arith, a, b) in
                  let there : slice_get config other ≡ Some member = ap (slice_get config) (sym here) ∙ is in
                  let s : Some member ≡ Some one = sym there ∙ is' in cc
            ]
      ]

  read_more : (n : ℕ) (middle after : Bank) (member : Member) (heard : Heard) (before : List Event) → IsAt config n member → heard ≢ NoMemory → Read n before middle
      → IsFaithful signs middle member.id (Latest handle nonce) heard after → Read (suc n) (read_by handle nonce member.id heard ∷ before) after
  read_more n middle after member heard before is went read faithful = record {
    were = one_more view config is_config.rising rows rows left bank n middle after member read.were is (latest_same signs middle after view config rows left member handle nonce heard was);
    each = λ place one below there.
        elim (cases_Bool (ltb place n)) [
          | inl earlier ↦
              let did = read.each place one (ltb-true place n earlier) there in
              record { heard = did.heard; said = did.said; had = inr did.had }
          | inr later ↦
              let upper : n ≤ place = ltb-false place n later in
              let now : place ≡ n = omega (arith, below, upper) in
              let here : slice_get config n ≡ Some one = ap (slice_get config) (sym now) ∙ there in
              let same : member ≡ one = (let s : Some member ≡ Some one = sym is ∙ here in cc) in
              subst (λ (m : Member). Did m (read_by handle nonce member.id heard ∷ before)) same (record { heard = heard; said = here_said; had = inl refl })
        ];
    only = λ place one other there had. by_call place one other there had;
  }
    where
      was : Asked signs middle view config rows (left + 1) member (Latest handle nonce) heard after
      was = record { able = still_able view config is_config.rising rows rows left bank (left + 1) n middle member able read.were is; went = went; faithful = faithful }

      here_said : Said member heard
      here_said = said middle after member heard was

      by_call : (place : ℕ) (one : Member) (other : Heard) → IsAt config place one → Had (read_by handle nonce member.id heard ∷ before) (read_by handle nonce one.id other) → Said one other
      by_call place one other there (inr had) = read.only place one other there had
      by_call place one other there (inl now) =
          let same_id : member.id ≡ one.id = ap (λ (e : Event). id_in e 0) now in
          let same_heard : heard ≡ other = ap (λ (e : Event). heard_in e NoMemory) now in
          subst (λ (m : Member). Said m other) (one_member n place member one is there same_id) (subst (Said member) same_heard here_said)

  pub reads : (asked : ℕ) (events : List Event) (after : Bank) → WereRead handle nonce config asked events → AreFaithful signs bank events after → Read asked events after
  reads zero events after were faithful =
      let same : after ≡ bank = subst (λ (e : List Event). AreFaithful signs bank e after) were faithful in
      record {
        were = subst (WereAsked bank view config rows left zero) (sym same) (none_asked view config is_config.rising rows rows left bank);
        each = λ place member below there. absurd (omega arith);
        only = λ place member heard there had. absurd (subst (λ (e : List Event). Had e (read_by handle nonce member.id heard)) were had);
      }
  reads (suc n) events after were faithful =
      let now = subst (λ (e : List Event). AreFaithful signs bank e after) were.4 faithful in
      subst (λ (e : List Event). Read (suc n) e after) (sym were.4)
      (read_more n now.0 after were.0 were.1 were.2 were.3 were.5 (reads n were.2 now.0 were.6 now.1) now.2)
