use Rattle.std.proofs.Common.{◌≡◌, ℕ, List, ap, ◌∙◌, subst}
use Rattle.std.specs.Io.KnownBytes.{Appends}
use Rattle.std.proofs.KnownBytes.{Appends-nil}
use Rattle.keep_base.specs.Sources.{AppendsPrefix}
use Rattle.keep_routes.proofs.Codes.{code_writable}
use Rattle.keep_wire.specs.Written.{response_text}
use Rattle.keep_wire.specs.declared.message.Response.{Response}
use Rattle.keep_api.specs.Sessions.{bytes_of}
use Rattle.keep_api.proofs.connection.send.Goals as goal

text-of : (r : Response) (slice text body : List ℕ) → slice ≡ text → text ≡ response_text r.status body → body ≡ r.body → slice ≡ bytes_of r
unfolding bytes_of
text-of r slice text body a b e = a ∙ b ∙ ap (response_text r.status) e

pub write_response-requires-clause-code : goal.write_response-requires-clause-code
write_response-requires-clause-code g c = (code_writable c.args.response.now.status c.requires).0

pub write_response-requires-clause-phrase : goal.write_response-requires-clause-phrase
write_response-requires-clause-phrase g c = (code_writable c.args.response.now.status c.requires).1

pub returns-in-Err-clause-sent : goal.returns-in-Err-clause-sent
returns-in-Err-clause-sent g c = Appends-nil _

pub returns-in-Ok-write_all-clause-sent : goal.returns-in-Ok-write_all-clause-sent
returns-in-Ok-write_all-clause-sent g c =
    subst (Appends (g.W.Sink.taken c.args.sink.now) (g.W.Sink.taken c.write_all.new.sink)) (text-of c.args.response.now _ _ _ c.as_slice-2.ensures c.in-Ok.ensures.written c.as_slice.ensures) c.in-Ok-write_all.ensures.ok

pub returns-clause-sent : goal.returns-clause-sent
returns-clause-sent g c =
    subst (AppendsPrefix (g.W.Sink.taken c.args.sink.now) (g.W.Sink.taken c.write_all.new.sink)) (text-of c.args.response.now _ _ _ c.as_slice-2.ensures c.in-Ok.ensures.written c.as_slice.ensures) c.in-Err-write_all.ensures.err
