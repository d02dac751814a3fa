-- What a call has counted of the servers that it asked so far. Inner to this crate.
use Rattle.std.specs.Prelude.{◌≡◌, ℕ, ◌+◌, ◌==◌, ◌&&◌, Bool, true, false, List, [], length, count_by, None, Some, Result, Ok, Err, if◌then◌else◌}
use Rattle.std.specs.List.{filter_map, list_all}
use Rattle.keep_client.specs.declared.said.Said.{Said}
use Rattle.keep_client.specs.declared.said.Said.TheVariants as said
use Rattle.keep_client.specs.declared.get.Miss.{Miss}
use Rattle.keep_client.specs.declared.get.Miss.TheVariants as miss
use Rattle.keep_client.specs.declared.get.Misses.{Misses}
use Rattle.keep_client.specs.declared.put.PutDone.{PutDone}
use Rattle.keep_client.specs.declared.put.Tally.{Tally}
use Rattle.keep_client.specs.declared.error.ClientError.{ClientError}
use Rattle.keep_client.specs.declared.error.ClientError.TheVariants as error
use Rattle.keep_client.specs.Answers.{acknowledged, declines, given, is_failed, is_missing, is_wrong, is_refusal}

-- ---- a get

-- a server that gave no block counts so
pub record IsMiss (block : List ℕ) (said : Said) (missing wrong failed refused : Bool) : Type 0 where
  pub none : given block said ≡ None
  pub lacks : is_missing said ≡ missing
  pub errs : is_wrong block said ≡ wrong
  pub fails : is_failed said ≡ failed
  pub refuses : is_refusal said ≡ refused

abbrev pub IsHeard : List ℕ → Said → Result (List ℕ) Miss → Type 0
IsHeard block said (Ok bytes) = given block said ≡ Some bytes
IsHeard block said (Err miss.Missing) = IsMiss block said true false false false
IsHeard block said (Err miss.Wrong) = IsMiss block said false true false false
IsHeard block said (Err miss.Failed) = IsMiss block said false false true false
IsHeard block said (Err miss.Refused) = IsMiss block said false false false true

abbrev pub with_miss : Misses → Miss → Misses
with_miss m miss.Missing = m
with_miss m miss.Wrong = record m { wrong = m.wrong + 1 }
with_miss m miss.Failed = record m { failed = m.failed + 1 }
with_miss m miss.Refused = record m { refused = m.refused + 1 }

abbrev pub none_counted : Misses → Bool
none_counted m = (m.wrong == 0) && (m.failed == 0) && (m.refused == 0)

abbrev pub error_of : Misses → ClientError
error_of m = if none_counted m then error.NotFound else error.Unread m.wrong m.failed m.refused

-- none of these servers gave the block, and they are counted
pub record AreMissed (block : List ℕ) (said : List Said) (m : Misses) : Type 0 where
  pub none : filter_map (given block) said ≡ []
  pub missing : list_all is_missing said ≡ none_counted m
  pub wrong : m.wrong ≡ count_by (is_wrong block) said
  pub failed : m.failed ≡ count_by is_failed said
  pub refused : m.refused ≡ count_by is_refusal said

-- ---- a put

pub record AreTallied (block : List ℕ) (said : List Said) (t : Tally) : Type 0 where
  pub acked : t.locators.items ≡ filter_map (acknowledged block) said
  pub failed : t.failed ≡ count_by is_failed said
  pub refused : t.refused ≡ count_by (declines block) said

abbrev pub end_of : Tally → ℕ → Result PutDone ClientError
end_of t copies =
    if length t.locators.items == copies then Ok (record { locators = t.locators.items })
    else Err (error.TooFew (length t.locators.items) t.failed t.refused)

-- with a server counted that hasn't acknowledged
abbrev pub with_miss_of : Tally → Said → Tally
with_miss_of t said.Failed = record t { failed = t.failed + 1 }
with_miss_of t said.Broken = record t { refused = t.refused + 1 }
with_miss_of t (said.Answered r) = record t { refused = t.refused + 1 }
