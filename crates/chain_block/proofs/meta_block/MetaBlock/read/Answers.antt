use Rattle.std.proofs.Common.{◌++◌, length, get_or, refl, sym, ap, ◌∙◌, arith}
use Rattle.chain_block.specs.MetaBlock.{IsMetaBlock}
use Rattle.chain_block.proofs.MetaBlockLaws.{own_bytes, found, length-metablock_bytes}
use Rattle.chain_block.proofs.meta_block.MetaBlock.read.Goals as goal

pub returns-clause-found : goal.returns-clause-found
returns-clause-found c =
    let kind = c.in_ok-u8.ensures in
    let prev = c.in_ok-prev.ensures in
    let entry = c.in_ok-entry.ensures in
    let height = c.in_ok-height.ensures in
    let read = found c.args.bytes.now kind.0 c.u8.new.self c.in_ok-prev.prev c.read_digest.new.cursor c.in_ok-entry.entry c.read_digest-2.new.cursor height.0 c.u64.new.self c.in_ok-u8.field-0 c.in_ok-height.height
    (λ i. omega (arith, c.type_inv.bytes i)) (sym c.new-cursor.ensures ∙ kind.2) kind.1 kind.3 c.if-branch-ne-METABLOCK.false (prev.2 ∙ ap (λ l. l ++ c.read_digest.new.cursor) (sym prev.3)) (entry.2 ∙ ap (λ l. l ++ c.read_digest-2.new.cursor) (sym entry.3)) height.2 height.1 height.3 (omega (arith, c.left.ensures)) in
    let is : IsMetaBlock c.in_ok-prev.prev c.in_ok-entry.entry c.in_ok-height.height = (ap length prev.3 ∙ prev.1, ap length entry.3 ∙ entry.1, read.0) in
    (is, read.1)

pub returns-clause-again : goal.returns-clause-again
returns-clause-again c =
    let kind = c.in_ok-u8.ensures in
    let prev = c.in_ok-prev.ensures in
    let entry = c.in_ok-entry.ensures in
    let height = c.in_ok-height.ensures in
    let read = found c.args.bytes.now kind.0 c.u8.new.self c.in_ok-prev.prev c.read_digest.new.cursor c.in_ok-entry.entry c.read_digest-2.new.cursor height.0 c.u64.new.self c.in_ok-u8.field-0 c.in_ok-height.height
    (λ i. omega (arith, c.type_inv.bytes i)) (sym c.new-cursor.ensures ∙ kind.2) kind.1 kind.3 c.if-branch-ne-METABLOCK.false (prev.2 ∙ ap (λ l. l ++ c.read_digest.new.cursor) (sym prev.3)) (entry.2 ∙ ap (λ l. l ++ c.read_digest-2.new.cursor) (sym entry.3)) height.2 height.1 height.3 (omega (arith, c.left.ensures)) in
    let is : IsMetaBlock c.in_ok-prev.prev c.in_ok-entry.entry c.in_ok-height.height = (ap length prev.3 ∙ prev.1, ap length entry.3 ∙ entry.1, read.0) in
    λ prev' entry' height' is' e.
    let same = own_bytes c.in_ok-prev.prev prev' c.in_ok-entry.entry entry' c.in_ok-height.height height' is is' (sym read.1 ∙ e) in
    rw (same.0, same.1, same.2) refl

pub returns-clause-refused : goal.returns-clause-refused
returns-clause-refused c =
    let kind = c.in_ok-u8.ensures in
    let prev = c.in_ok-prev.ensures in
    let entry = c.in_ok-entry.ensures in
    let height = c.in_ok-height.ensures in
    let read = found c.args.bytes.now kind.0 c.u8.new.self c.in_ok-prev.prev c.read_digest.new.cursor c.in_ok-entry.entry c.read_digest-2.new.cursor height.0 c.u64.new.self c.in_ok-u8.field-0 c.in_ok-height.height
    (λ i. omega (arith, c.type_inv.bytes i)) (sym c.new-cursor.ensures ∙ kind.2) kind.1 kind.3 c.if-branch-ne-METABLOCK.false (prev.2 ∙ ap (λ l. l ++ c.read_digest.new.cursor) (sym prev.3)) (entry.2 ∙ ap (λ l. l ++ c.read_digest-2.new.cursor) (sym entry.3)) height.2 height.1 height.3 (omega (arith, c.left.ensures)) in
    let is : IsMetaBlock c.in_ok-prev.prev c.in_ok-entry.entry c.in_ok-height.height = (ap length prev.3 ∙ prev.1, ap length entry.3 ∙ entry.1, read.0) in
    (λ _. (ap length read.1 ∙ length-metablock_bytes c.in_ok-prev.prev c.in_ok-entry.entry c.in_ok-height.height is.0 is.1, ap (λ l. get_or l 0 0) read.1), λ _. refl)
