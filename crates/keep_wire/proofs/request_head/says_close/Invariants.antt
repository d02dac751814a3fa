use Rattle.std.proofs.Common.{◌≡◌, drop, codes}
use Rattle.std.specs.List.{list_any}
use Rattle.keep_wire.specs.Fields.{values_of, is_alike}
use Rattle.keep_wire.specs.Looks.{pairs_at}
use Rattle.keep_wire.proofs.request_head.says_close.Given as goal

abbrev pub invariant-loop-header : goal.invariant-loop-header
invariant-loop-header l =
    list_any (λ v. is_alike v (codes "close")) (values_of (codes "connection") (pairs_at l.bytes l.headers))
    ≡ list_any (λ v. is_alike v (codes "close")) (values_of (codes "connection") (pairs_at l.bytes (drop l.header-index l.headers)))
