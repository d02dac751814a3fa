use Rattle.std.proofs.Common.{◌≡◌, drop, map, true}
use Rattle.std.specs.List.{list_all}
use Rattle.keep_spec.specs.Locator.{is_locator}
use Rattle.keep_event.specs.Requests.{first_unsigned, unsigned_because}
use Rattle.keep_collections.proofs.signed.first_unsigned.Given as goal

-- the locators that are left decide
abbrev pub invariant-loop-index : goal.invariant-loop-index
invariant-loop-index l = record {
  left : first_unsigned (unsigned_because l.config l.token l.reading) l.index (map (λ t. t.now) (drop l.index l.locators))
      ≡ first_unsigned (unsigned_because l.config l.token l.reading) 0 (map (λ t. t.now) l.locators);
  locators : list_all is_locator (map (λ t. t.now) (drop l.index l.locators)) ≡ true;
}
