use Rattle.world_run.proofs.PlainFronts.{front_first, whole_plainly}
use Rattle.world_run.proofs.plain_scripts.plain_scripts_get_plain_replies.Goals as goal

pub returns-clause-whole : goal.returns-clause-whole
returns-clause-whole g c = λ key_of left_of checks texts_of script made printed runnable did.
    whole_plainly g.G.Signer.Signer.key_of g.G.Signer.Signer.left_of g.G.Signer.Signer.size_of g.G.Signer.Signer.signs g.G.Scheme.fits g.G.Checker.Checker.accepts key_of left_of checks
    (record {
      request = c.plain_lines_get_plain_replies.ensures.request checks;
      restart = c.plain_lines_get_plain_replies.ensures.restart checks;
      end = c.plain_lines_get_plain_replies.ensures.end checks;
      client = c.plain_lines_get_plain_replies.ensures.client checks;
      begins = c.plain_runs_begin.ensures;
    })
    texts_of script runnable made printed did

pub returns-clause-front : goal.returns-clause-front
returns-clause-front g c = λ key_of left_of checks texts_of script printed runnable did.
    front_first g.G.Signer.Signer.key_of g.G.Signer.Signer.left_of g.G.Signer.Signer.size_of g.G.Signer.Signer.signs g.G.Scheme.fits g.G.Checker.Checker.accepts key_of left_of checks
    (record {
      request = c.plain_lines_get_plain_replies.ensures.request checks;
      restart = c.plain_lines_get_plain_replies.ensures.restart checks;
      end = c.plain_lines_get_plain_replies.ensures.end checks;
      client = c.plain_lines_get_plain_replies.ensures.client checks;
      begins = c.plain_runs_begin.ensures;
    })
    texts_of script runnable printed did
