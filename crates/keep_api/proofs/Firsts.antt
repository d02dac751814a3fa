-- The first requests of known bytes: with one more, and how they end.
use Rattle.std.proofs.Common.{◌≡◌, ℕ, List, [], ◌∷◌, ◌++◌, refl, sym, subst, inl, inr, true, false}
use Rattle.keep_wire.specs.Requests.{IsRequest}
use Rattle.keep_wire.specs.Sessions.{AreRequests, Ending, closed}
use Rattle.keep_wire.specs.declared.message.Request.{Request}
use Rattle.keep_api.specs.Sessions.{AreFirst, Exchange, requests_of}

pub first-more : (b : List ℕ) (xs : List Exchange) (left : List ℕ) (x : Exchange) (more : List ℕ) → AreFirst b (requests_of xs) left → IsRequest left x.request more → x.request.close ≡ false → AreFirst b (requests_of (xs ++ x ∷ [])) more
first-more b [] left x more first is goes = (more, (subst (λ v. IsRequest v x.request more) (sym first) is, (goes, refl)))
first-more b (y ∷ xs) left x more first is goes = (first.0, (first.1.0, (first.1.1.0, first-more first.0 xs left x more first.1.1.1 is goes)))

pub first-ends : (b : List ℕ) (qs : List Request) (left : List ℕ) (e : Ending) → AreFirst b qs left → AreRequests left [] e → AreRequests b qs e
first-ends b [] left e first over = subst (λ v. AreRequests v [] e) (sym first) over
first-ends b (q ∷ qs) left e first over = (first.0, first.1.0, inr (first.1.1.0, first-ends first.0 qs left e first.1.1.1 over))

pub first-closes : (b : List ℕ) (xs : List Exchange) (left : List ℕ) (x : Exchange) (more : List ℕ) → AreFirst b (requests_of xs) left → IsRequest left x.request more → x.request.close ≡ true → AreRequests b (requests_of (xs ++ x ∷ [])) closed
first-closes b [] left x more first is closes = (more, subst (λ v. IsRequest v x.request more) (sym first) is, inl (closes, refl, refl))
first-closes b (y ∷ xs) left x more first is closes = (first.0, first.1.0, inr (first.1.1.0, first-closes first.0 xs left x more first.1.1.1 is closes))
