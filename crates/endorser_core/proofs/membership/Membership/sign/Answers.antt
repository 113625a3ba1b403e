use Rattle.std.proofs.Common.{◌≡◌, Some, arith, rules}
use Rattle.endorser_core.proofs.membership.Membership.sign.Goals as goal

-- the signer had a signature left, and signed
pub returns-clause-done : goal.returns-clause-done
returns-clause-done g c = record {
  sig = Some c.in-Ok.sig.bytes;
  signer = (
    search rules,
    record {
      some = omega arith;
      one = search rules;
      no_more = search rules;
      length = search rules;
      same_key = search rules;
      same_size = search rules;
    },
  );
  goes = search rules;
}
