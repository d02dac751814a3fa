-- A locator that wants its permission hint: its beginning, and what signs it.
use Rattle.std.specs.Prelude.{ℕ, List}
use Rattle.keep_spec.specs.Config.{Configuration}

-- the digest, the token, the lifetime of signatures in seconds, and their key
pub record Beginning : Type 0 where
  pub text : List ℕ
  pub digest : List ℕ
  pub token : List ℕ
  pub ttl : ℕ
  pub secret : List ℕ

abbrev pub unsigned : Configuration → List ℕ → List ℕ → List ℕ → Beginning
unsigned c token digest text = record { text = text; digest = digest; token = token; ttl = c.ttl; secret = c.secret }
