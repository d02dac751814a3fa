use Rattle.std.proofs.Common.{sym}
use Rattle.keep_manifest.proofs.SplitText.{split_found, split_none, length_found}
use Rattle.keep_manifest.proofs.line.first_token.Goals as goal

pub returns-in-Some-clause-tokens : goal.returns-in-Some-clause-tokens
returns-in-Some-clause-tokens c = split_found 32 c.args.text.now (c.in-Some.token.now, c.in-Some.rest.now) (sym c.in-Some.ensures)

pub returns-in-Some-clause-length : goal.returns-in-Some-clause-length
returns-in-Some-clause-length c = length_found 32 c.args.text.now (c.in-Some.token.now, c.in-Some.rest.now) (sym c.in-Some.ensures)

pub returns-in-None-clause-tokens : goal.returns-in-None-clause-tokens
returns-in-None-clause-tokens c = split_none 32 c.args.text.now (sym c.in-None.ensures)
