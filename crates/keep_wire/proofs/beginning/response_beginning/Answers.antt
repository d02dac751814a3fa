use Rattle.std.proofs.Common.{inl}
use Rattle.keep_wire.specs.Messages.{IsBadHead}
use Rattle.keep_wire.specs.Replies.{response_grammar}
use Rattle.keep_wire.proofs.beginning.response_beginning.Goals as goal

pub returns-in-Err-BadHead : goal.returns-in-Err-BadHead
returns-in-Err-BadHead c =
    let bad : IsBadHead response_grammar c.args.bytes.now = rw c.in-Err-BadHead.field-0-is at c.in-Err-BadHead.ensures in
    inl bad
