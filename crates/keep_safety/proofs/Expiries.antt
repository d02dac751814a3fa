-- How late the expiries of signatures are, the one place where their rule counts: of a put `put-expiry-low`, of a read `read-expiry-low`.
use Rattle.std.proofs.Common.{◌≡◌, ◌≤◌, ◌<◌, ◌+◌, ◌*◌, ◌/◌, ◌-◌, ◌^◌, min, ℕ, Bool, true, false, refl, sym, ◌∙◌, Option, None, Some, arith, inl, inr, div-mul-le_self}
use Rattle.std.specs.Prelude.{◌⊎◌, if◌then◌else◌}
use Rattle.std.specs.Option.{option_map_or}
use Rattle.std.proofs.lemmas.Bool.{cases_lt}
use Rattle.keep_spec.specs.Config.{Configuration}
use Rattle.keep_event.specs.Requests.{rules_of}
use Rattle.keep_event.specs.Table.{expiry_of, signed_until, is_in_trash}
use Rattle.keep_event.specs.declared.table.Collection.{Collection}
use Rattle.keep_spec.specs.Times.{expiry_at}

-- the lifetime of a signature, in nanoseconds: with twice the skew it is the grace
abbrev pub lifetime : Configuration → ℕ
lifetime c = c.ttl * 10 ^ 9

expiry-low : (m t b : ℕ) → min (m / 10 ^ 9 + t) b * 10 ^ 9 ≤ m + t * 10 ^ 9
expiry-low m t b = let low = div-mul-le_self m (10 ^ 9) in by (cases_lt (m / 10 ^ 9 + t) b) low
  where
    by : ((m / 10 ^ 9 + t) < b) ⊎ (b ≤ m / 10 ^ 9 + t) → m / 10 ^ 9 * 10 ^ 9 ≤ m → min (m / 10 ^ 9 + t) b * 10 ^ 9 ≤ m + t * 10 ^ 9
    by (inl lt) low = omega arith
    by (inr le) low = omega arith

-- an expiry, in nanoseconds, is at most the time that was signed and the lifetime
pub put-expiry-low : (c : Configuration) (m : ℕ) → expiry_at c.ttl m * 10 ^ 9 ≤ m + lifetime c
put-expiry-low c m = expiry-low m c.ttl (2 ^ 32 - 1)

-- that of a read is at most the reading and the lifetime, and at most the collection's time in the trash, where it has one
pub record IsEarly (c : Configuration) (reading : ℕ) (x : Collection) (e : ℕ) : Type 0 where
  pub lived : e * 10 ^ 9 ≤ reading + lifetime c
  pub trashed : (at : ℕ) → x.trash_at ≡ Some at → e * 10 ^ 9 ≤ at

at-low : (at b : ℕ) → min b (at / 10 ^ 9) * 10 ^ 9 ≤ at
at-low at b = let low = div-mul-le_self at (10 ^ 9) in omega arith

less-low : (b a m : ℕ) → b * 10 ^ 9 ≤ m → min b a * 10 ^ 9 ≤ m
less-low b a m h = by (cases_lt b a)
  where
    by : (b < a) ⊎ (a ≤ b) → min b a * 10 ^ 9 ≤ m
    by (inl lt) = omega arith
    by (inr le) = omega arith

early-by : (c : Configuration) (reading : ℕ) (x : Collection) (o : Option ℕ) → x.trash_at ≡ o → IsEarly c reading x (option_map_or (λ at. min (signed_until (rules_of c) reading) (at / 10 ^ 9)) o (signed_until (rules_of c) reading))
early-by c reading x None is = record { lived = expiry-low reading c.ttl (2 ^ 32 - 1); trashed = λ at e. cc (sym is ∙ e) }
early-by c reading x (Some t) is = record {
  lived = less-low (signed_until (rules_of c) reading) (t / 10 ^ 9) (reading + lifetime c) (expiry-low reading c.ttl (2 ^ 32 - 1));
  trashed = λ at e. (let same : t ≡ at = cc (sym is ∙ e) in let low = at-low t (signed_until (rules_of c) reading) in omega arith);
}

pub read-expiry-low : (c : Configuration) (reading : ℕ) (x : Collection) (e : ℕ) → expiry_of (rules_of c) reading x ≡ Some e → IsEarly c reading x e
read-expiry-low c reading x e is = by (is_in_trash reading x) is
  where
    early : (n : ℕ) → n ≡ e → IsEarly c reading x n → IsEarly c reading x e
    early n same k = record { lived = (let l = k.lived in omega arith); trashed = λ at t. (let l = k.trashed at t in omega arith) }

    by : (b : Bool) → (if b then None else Some (option_map_or (λ at. min (signed_until (rules_of c) reading) (at / 10 ^ 9)) x.trash_at (signed_until (rules_of c) reading))) ≡ Some e → IsEarly c reading x e
    by true is = cc is
    by false is = early (option_map_or (λ at. min (signed_until (rules_of c) reading) (at / 10 ^ 9)) x.trash_at (signed_until (rules_of c) reading)) (cc is) (early-by c reading x x.trash_at refl)
