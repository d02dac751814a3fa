-- The tasks that a run's lines open ask devices of the configuration: the configuration of an input is a good one, `good-begun`; so a task asks such where its opening names one, `opening-there`, as a line does, `device-names`.
use Rattle.std.proofs.Common.{◌≡◌, ◌<◌, ℕ, Bool, true, false, List, [], ◌∷◌, length, not, Option, None, Some, IfSome, Result, Ok, Err, refl, option_and_then}
use Rattle.std.specs.Prelude.{⊤, nat_lt, if◌then◌else◌, codes}
use Rattle.std.proofs.lemmas.Bool.{ltb-true}
use Rattle.std.proofs.lemmas.List.Elements.{All-filter, recursion_from_All}
use Rattle.serde_json.specs.Data.{Data}
use Rattle.serde_json.specs.Find.{as_str}
use Rattle.keep_spec.specs.Config.{Configuration, IsGood, all_known, are_devices, are_mounts, are_servers, are_tokens, config_of, config_of_object, device_of, devices_of, field, is_cluster, is_index_digits, is_object, is_scan_limit, is_secret, is_skew, is_token, is_trash_life, is_ttl, is_versions, mount_of, number_or, server_of}
use Rattle.keep_spec.specs.Json.{has_members, list_at, number_at, text_at, value_of}
use Rattle.keep_spec.specs.Lines.{Verdict, fits, input_too_long, line_too_long, text_of}
use Rattle.keep_spec.specs.Results.{◌>>=◌}
use Rattle.keep_spec.specs.declared.config.Field.{Field}
use Rattle.keep_spec.specs.declared.config.Field.TheVariants as F
use Rattle.keep_spec.proofs.Mounted.{devices_of-within}
use Rattle.keep_config.proofs.Passing.{field-passes}
use Rattle.keep_history.specs.declared.task.Opening.{Opening}
use Rattle.keep_history.specs.declared.task.Opening.TheVariants as Open
use Rattle.keep_history.specs.Ended.{Begun, begun_by, begun_of}
use Rattle.keep_history.specs.Run.{config_for, fitted, verdict_on}
use Rattle.keep_history.specs.Script.{device_of_data}
use Rattle.keep_history.specs.Tasks.{is_read_only, opened, writable}
use Rattle.keep_history.proofs.Openings.{IsMade, OkHas, opened-has}
use Rattle.keep_rounds.proofs.There.{AllThere, TaskThere}

-- ---- the configuration
abbrev GoodOk : Result Configuration Field → Type 0
GoodOk (Ok c) = IsGood c
GoodOk (Err e) = ⊤

record IsGoodResult (r : Result Configuration Field) : Type 0 where
  good : GoodOk r

then-good : {X : Type 0} (r : Result X Field) (k : X → Result Configuration Field) → ((x : X) → r ≡ Ok x → IsGoodResult (k x)) → IsGoodResult (r >>= k)
then-good (Ok x) k h = h x refl
then-good (Err e) k h = record { good = tt }

if-good : (b : Bool) (c : Configuration) (e : Field) → IsGood c → IsGoodResult (if b then Ok c else Err e)
if-good true c e h = record { good = h }
if-good false c e h = record { good = tt }

object-good : (d : Data) → IsGoodResult (config_of_object d)
object-good d =
    then-good (field F.Cluster is_cluster (text_at (codes "cluster") d)) _ (λ cluster e1. then-good (field F.Ttl is_ttl (number_at (codes "ttl") d)) _ (λ ttl e2. then-good (field F.Skew is_skew (number_at (codes "skew") d)) _ (λ skew e3. then-good (field F.Secret is_secret (text_at (codes "secret") d)) _ (λ secret e4. then-good (field F.SystemToken is_token (text_at (codes "system_token") d)) _ (λ system_token e5. then-good (field F.Tokens (are_tokens system_token) (list_at as_str (codes "tokens") d)) _ (λ tokens e6.
    then-good (field F.Devices are_devices (list_at device_of (codes "devices") d)) _ (λ devices e7. then-good (field F.Servers are_servers (list_at server_of (codes "servers") d)) _ (λ servers e8. then-good (field F.Mounts (are_mounts (length devices) (length servers)) (list_at mount_of (codes "mounts") d)) _ (λ mounts e9. then-good (field F.Versions is_versions (number_at (codes "versions") d)) _ (λ versions e10. then-good (field F.TrashLife is_trash_life (number_at (codes "trash_life") d)) _ (λ trash_life e11. then-good (field F.IndexDigits is_index_digits (number_or 0 (codes "index_digits") d)) _ (λ index_digits e12. then-good (field F.ScanLimit is_scan_limit (number_or 1000 (codes "scan_limit") d)) _ (λ scan_limit e13.
    if-good (all_known d) _ _ (record {
      cluster = field-passes _ _ _ cluster e1;
      ttl = field-passes _ _ _ ttl e2;
      skew = field-passes _ _ _ skew e3;
      secret = field-passes _ _ _ secret e4;
      system_token = field-passes _ _ _ system_token e5;
      tokens = field-passes _ _ _ tokens e6;
      devices = field-passes _ _ _ devices e7;
      servers = field-passes _ _ _ servers e8;
      mounts = field-passes _ _ _ mounts e9;
      versions = field-passes _ _ _ versions e10;
      trash_life = field-passes _ _ _ trash_life e11;
      index_digits = field-passes _ _ _ index_digits e12;
      scan_limit = field-passes _ _ _ scan_limit e13;
    }))))))))))))))

text-good : (text : List ℕ) → IsGoodResult (config_of text)
unfolding config_of
text-good text = then-good (field F.Line is_object (value_of text)) _ (λ d e. object-good d)

fitted-good : (stores : ℕ) (r : Result Configuration Field) → IsGoodResult r → IsGoodResult (fitted stores r)
fitted-good stores (Err e) h = record { good = tt }
fitted-good stores (Ok c) h = by (nat_lt stores (length c.devices))
  where
    by : (b : Bool) → IsGoodResult (if b then Err F.Devices else Ok c)
    by true = record { good = tt }
    by false = h

pub good-begun : (stores : ℕ) (pieces : List (List ℕ)) → IfSome (begun_of stores pieces) (λ (b : Begun). IsGood b.config)
good-begun stores [] = tt
good-begun stores (piece ∷ rest) = by (verdict_on 0 piece) (config_for stores (text_of piece)) (fitted-good stores _ (text-good (text_of piece)))
  where
    by : (v : Verdict) (r : Result Configuration Field) → IsGoodResult r → IfSome (begun_by (length piece) rest v r) (λ (b : Begun). IsGood b.config)
    by fits (Ok c) h = h.good
    by fits (Err e) h = tt
    by line_too_long r h = tt
    by input_too_long r h = tt

-- ---- commands
module _ (c : Configuration) where
  abbrev pub NamesDevice : Opening → Type 0
  NamesDevice (Open.Restart device) = device < length c.devices
  NamesDevice (Open.TrashWorker device) = device < length c.devices
  NamesDevice (Open.PullWorker device) = device < length c.devices
  NamesDevice (Open.EmptyWorker device) = device < length c.devices
  NamesDevice other = ⊤

  pub device-names : (d : Data) → IfSome (device_of_data c d) (λ device. device < length c.devices)
  device-names d = by (number_at (codes "device") d)
    where
      last : (b : Bool) (n : ℕ) → n < length c.devices → IfSome (if b then Some n else None) (λ device. device < length c.devices)
      last true n lt = lt
      last false n lt = tt

      within : (n : ℕ) (b m : Bool) → nat_lt n (length c.devices) ≡ b → IfSome (option_and_then (λ device. if m then Some device else None) (if b then Some n else None)) (λ device. device < length c.devices)
      within n true m e = last m n (ltb-true n (length c.devices) e)
      within n false m e = tt

      by : (o : Option ℕ) → IfSome (option_and_then (λ device. if has_members 4 d then Some device else None) (option_and_then (λ n. if nat_lt n (length c.devices) then Some n else None) o)) (λ device. device < length c.devices)
      by None = tt
      by (Some n) = within n (nat_lt n (length c.devices)) _ refl

  -- ---- openings
  module _ (good : IsGood c) where
    all-devices : (server : ℕ) → AllThere c (devices_of c server)
    all-devices server = recursion_from_All (λ d. d < length c.devices) (devices_of c server) (devices_of-within c server good)

    all-writable : (server : ℕ) → AllThere c (writable c server)
    all-writable server = recursion_from_All (λ d. d < length c.devices) (writable c server) (All-filter (λ d. not (is_read_only c d)) (λ d. d < length c.devices) (devices_of c server) (devices_of-within c server good))

    made-there : (opening : Opening) → NamesDevice opening → IsMade (TaskThere c) c opening
    made-there (Open.Put token server bytes hash) h = λ id some. all-writable server
    made-there (Open.Get token server locator) h = λ hash some. all-devices server
    made-there (Open.Touch token server locator) h = λ id hash some. all-writable server
    made-there (Open.Untrash token server hash) h = λ some. all-writable server
    made-there (Open.Restart device) h = h
    made-there (Open.Save request) h = refl
    made-there (Open.Update collection preserve request) h = refl
    made-there (Open.Read token collection version) h = refl
    made-there (Open.Trash token collection trash_at delete_at) h = refl
    made-there (Open.Restore token collection) h = refl
    made-there Open.Sweep h = refl
    made-there Open.Balance h = tt
    made-there (Open.TrashWorker device) h = h
    made-there (Open.PullWorker device) h = h
    made-there (Open.EmptyWorker device) h = h

    pub opening-there : (opening : Opening) (reading : ℕ) → NamesDevice opening → OkHas (TaskThere c) (opened c opening reading)
    opening-there opening reading h = opened-has (TaskThere c) c opening reading (made-there opening h)
