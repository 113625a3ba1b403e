use Rattle.std.proofs.Common.{◌≡◌, length, map, not, Bool, true, false, Some, None, get_or, ◌-◌, rules, sym, ap, ◌∙◌}
use Rattle.view_ledger.specs.Extension.{is_block, finals_fault, first_not_genuine}
use Rattle.statement.specs.declared.statement.Statement.TheVariants.{Final}
use Rattle.statement.specs.Statement.{statement_bytes}
use Rattle.view_ledger.specs.Kept.{config_of, kept_chain}
use Rattle.view_ledger.specs.Tails.{tail_by}
use Rattle.view_ledger.proofs.KeptViews.{fault_is}
use Rattle.view_ledger.proofs.Extending.{not_linked, not_ended, rests}
use Rattle.view_ledger.proofs.kept.tail_of_next.Goals as goal

flipped : (b c : Bool) → not b ≡ c → b ≡ not c
flipped true c e = ap not e
flipped false c e = ap not e

pub returns-then-ne-clause-fault : goal.returns-then-ne-clause-fault
returns-then-ne-clause-fault g c =
    let apart = ap (is_block c.args.block.now) (sym c.block_after-expected.ensures) ∙ flipped (is_block c.args.block.now c.block_after-expected.result) true (sym c.ne.ensures ∙ c.if-ne.true) in
    sym (not_linked (g.C.Checker.accepts c.args.checker.now) (kept_chain c.args.roster.now c.args.views.now) (record { block = c.args.block.now; config = c.args.config.now; finals = c.args.finals.now }) apart)

pub returns-in-Some-clause-fault : goal.returns-in-Some-clause-fault
returns-in-Some-clause-fault g c =
    let accepts = g.C.Checker.accepts c.args.checker.now in
    let configs = map config_of c.args.views.now in
    let linked = ap (is_block c.args.block.now) (sym c.block_after-expected.ensures) ∙ flipped (is_block c.args.block.now c.block_after-expected.result) false (sym c.ne.ensures ∙ c.if-ne.false) in
    let tail = tail_by configs c.args.config.now c.block_after-expected.result c.tail-tail.result c.tail-tail.ensures.digest c.block_after-expected.ensures in
    let judged : c.finals_fault.result ≡ finals_fault accepts (get_or c.args.views.now (length c.args.views.now - 1) c.index-views-views.result).config (λ m. statement_bytes (Final (get_or c.args.views.now (length c.args.views.now - 1) c.index-views-views.result).tail c.tail-tail.result m)) c.args.finals.now = search rules in
    let bad = sym (fault_is c.args.views.now c.requires.tails c.index-views-views.result c.requires.some accepts c.args.config.now c.tail-tail.result c.args.finals.now tail) ∙ sym judged ∙ c.in-Some.is in
    sym (not_ended accepts (kept_chain c.args.roster.now c.args.views.now) (record { block = c.args.block.now; config = c.args.config.now; finals = c.args.finals.now }) c.in-Some.fault linked bad)

pub returns-in-Some-first_not_genuine-clause-fault : goal.returns-in-Some-first_not_genuine-clause-fault
returns-in-Some-first_not_genuine-clause-fault g c =
    let accepts = g.C.Checker.accepts c.args.checker.now in
    let configs = map config_of c.args.views.now in
    let linked = ap (is_block c.args.block.now) (sym c.block_after-expected.ensures) ∙ flipped (is_block c.args.block.now c.block_after-expected.result) false (sym c.ne.ensures ∙ c.if-ne.false) in
    let tail = tail_by configs c.args.config.now c.block_after-expected.result c.tail-tail.result c.tail-tail.ensures.digest c.block_after-expected.ensures in
    let judged : c.finals_fault.result ≡ finals_fault accepts (get_or c.args.views.now (length c.args.views.now - 1) c.index-views-views.result).config (λ m. statement_bytes (Final (get_or c.args.views.now (length c.args.views.now - 1) c.index-views-views.result).tail c.tail-tail.result m)) c.args.finals.now = search rules in
    let good = sym (fault_is c.args.views.now c.requires.tails c.index-views-views.result c.requires.some accepts c.args.config.now c.tail-tail.result c.args.finals.now tail) ∙ sym judged ∙ c.in_default.is in
    let other = ap (first_not_genuine c.args.roster.now) (sym c.members.ensures.members) ∙ sym c.first_not_genuine.ensures.first ∙ c.in-Some-first_not_genuine.is in
    sym (rests accepts (kept_chain c.args.roster.now c.args.views.now) (record { block = c.args.block.now; config = c.args.config.now; finals = c.args.finals.now }) (Some c.in-Some-first_not_genuine.id) linked good other)

pub returns-clause-fault : goal.returns-clause-fault
returns-clause-fault g c =
    let accepts = g.C.Checker.accepts c.args.checker.now in
    let configs = map config_of c.args.views.now in
    let linked = ap (is_block c.args.block.now) (sym c.block_after-expected.ensures) ∙ flipped (is_block c.args.block.now c.block_after-expected.result) false (sym c.ne.ensures ∙ c.if-ne.false) in
    let tail = tail_by configs c.args.config.now c.block_after-expected.result c.tail-tail.result c.tail-tail.ensures.digest c.block_after-expected.ensures in
    let judged : c.finals_fault.result ≡ finals_fault accepts (get_or c.args.views.now (length c.args.views.now - 1) c.index-views-views.result).config (λ m. statement_bytes (Final (get_or c.args.views.now (length c.args.views.now - 1) c.index-views-views.result).tail c.tail-tail.result m)) c.args.finals.now = search rules in
    let good = sym (fault_is c.args.views.now c.requires.tails c.index-views-views.result c.requires.some accepts c.args.config.now c.tail-tail.result c.args.finals.now tail) ∙ sym judged ∙ c.in_default.is in
    let other = ap (first_not_genuine c.args.roster.now) (sym c.members.ensures.members) ∙ sym c.first_not_genuine.ensures.first ∙ c.in_default-first_not_genuine.is in
    sym (rests accepts (kept_chain c.args.roster.now c.args.views.now) (record { block = c.args.block.now; config = c.args.config.now; finals = c.args.finals.now }) None linked good other)

pub returns-clause-tail : goal.returns-clause-tail
returns-clause-tail g c = tail_by (map config_of c.args.views.now) c.args.config.now c.block_after-expected.result c.tail-tail.result c.tail-tail.ensures.digest c.block_after-expected.ensures
