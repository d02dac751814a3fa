use Rattle.std.proofs.Common.{sym}
use Rattle.keep_locator.proofs.JoinedParts.{joined, own_parts, joined_whole, rest-is}
use Rattle.keep_locator.proofs.laws.locators_are_joined_parts.Goals as goal

pub returns-clause-joined : goal.returns-clause-joined
returns-clause-joined c = joined

pub returns-clause-own_parts : goal.returns-clause-own_parts
returns-clause-own_parts c =
    λ text digits number others is. let own = own_parts text digits number others is in (joined_whole text digits number others is, own.digits_are, own.size_is, own.hints_are)

pub returns-clause-stripped_then_hints : goal.returns-clause-stripped_then_hints
returns-clause-stripped_then_hints c = λ text whole. sym (rest-is text)
