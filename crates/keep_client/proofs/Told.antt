-- What a link tells: exchanges after those that it told, and one exchange step by step.
use Rattle.std.proofs.Common.{◌≡◌, inl, inr, ℕ, ◌+◌, ◌<◌, ◌≤◌, length-append, ◌==◌, ◌&&◌, not, List, [], ◌∷◌, ◌++◌, length, take, drop, Option, Result, Ok, Err, refl, sym, ap, subst, ◌∙◌, append_assoc, append-nil, arith, true, false, Bool, take-append-drop}
use Rattle.std.proofs.lemmas.Bool.{ne_eqb}
use Rattle.std.specs.Bool.{⊤}
use Rattle.std.specs.Prelude.{IfOk}
use Rattle.keep_spec.specs.declared.memory.NoMemory.{NoMemory}
use Rattle.keep_spec.specs.declared.failed.Failed.{Failed}
use Rattle.std.proofs.Math.Seq.{take-append_seam}
use Rattle.keep_wire.specs.Replies.{IsBroken, IsHeadOf}
use Rattle.keep_client.specs.declared.link.Exchange.{Exchange}
use Rattle.keep_client.specs.declared.said.Said.{Said}
use Rattle.keep_client.specs.declared.said.Said.TheVariants as said
use Rattle.keep_client.specs.Exchanges.{IsTold, Grows, begun, after_write}
use Rattle.keep_client.specs.Saying.{BeginsWith, HasNoResponse, IsSettled, AreNeeded, Says}
use Rattle.keep_client.specs.Asking.{IsStopped}
use Rattle.keep_client.specs.Steps.{made, Turns, AfterRead, IsSent, IsReceived, HasMore, HasEnded, HasFailed, IsHeadReceived, IsBodyRead, IsBodyReceived, IsConversed, HasSaid}
use Rattle.keep_client.proofs.Heard.{IsBefore, before-unsettled, needed-more, whole-head, unsettled-none, needed-none, no_response-unsettled, no_response-broken, body-unsettled, body-whole, body-needed}

pub grows-none : (told : Option (List Exchange)) → Grows told told []
grows-none told es h = subst (λ v. IsTold v told) (sym (append-nil es)) h

pub grows-then : (a b c : Option (List Exchange)) (m n : List Exchange) → Grows a b m → Grows b c n → Grows a c (m ++ n)
grows-then a b c m n first then es h = subst (λ v. IsTold v c) (append_assoc es m n) (then (es ++ m) (first es h))

-- ---- the request

-- the request was sent up to here
pub record IsSending (request rest : List ℕ) (before now : Option (List Exchange)) : Type 0 where
  pub sent : List ℕ
  pub whole : request ≡ sent ++ rest
  pub told : (server : ℕ) → Turns (made server [] [] false false) (made server sent [] false false) before now

pub sending-start : (request : List ℕ) (told : Option (List Exchange)) → IsSending request request told told
sending-start request told = record { sent = []; whole = refl; told = λ server es h. h }

pub sending-more : (request rest : List ℕ) (n : ℕ) (a b c : Option (List Exchange)) → IsSending request rest a b
    → ((es : List Exchange) (e : Exchange) → IsTold (es ++ e ∷ []) b → IsTold (es ++ after_write {E = Failed} (Ok n) rest e ∷ []) c)
    → IsSending request (drop n rest) a c
sending-more request rest n a b c s wrote = record {
  sent = s.sent ++ take n rest;
  whole = s.whole ∙ ap (λ v. s.sent ++ v) (sym (take-append-drop n rest)) ∙ sym (append_assoc s.sent (take n rest) (drop n rest));
  told = λ server es h. wrote es (made server s.sent [] false false) (s.told server es h);
}

pub sending-all : (request rest : List ℕ) (a b : Option (List Exchange)) → IsSending request rest a b → rest ≡ [] → IsSent {E = Failed} request (Ok tt) a b
sending-all request rest a b s empty =
    let all : s.sent ≡ request = sym (s.whole ∙ ap (λ v. s.sent ++ v) empty ∙ append-nil s.sent) in
    λ server es h. subst (λ v. IsTold (es ++ made server v [] false false ∷ []) b) all (s.told server es h)

pub sending-fails : (request rest : List ℕ) (error : Failed) (a b c : Option (List Exchange)) → IsSending request rest a b
    → ((es : List Exchange) (e : Exchange) → IsTold (es ++ e ∷ []) b → IsTold (es ++ after_write {E = Failed} (Err error) rest e ∷ []) c)
    → IsSent {E = Failed} request (Err error) a c
sending-fails request rest error a b c s wrote =
    let part : s.sent ≡ take (length s.sent) request = sym (ap (take (length s.sent)) s.whole ∙ take-append_seam s.sent rest) in (
      length s.sent,
      λ server es h. subst (λ v. IsTold (es ++ made server v [] false true ∷ []) c) part
          (wrote es (made server s.sent [] false false) (s.told server es h)),
    )

-- ---- the answer

-- the answer was read up to here, and hasn't ended
pub record IsReading (bytes : List ℕ) (before now : Option (List Exchange)) : Type 0 where
  pub told : (server : ℕ) (written : List ℕ) → Turns (made server written [] false false) (made server written bytes false false) before now

pub reading-start : (told : Option (List Exchange)) → IsReading [] told told
reading-start told = record { told = λ server written es h. h }

pub reading-more : (bytes buffer : List ℕ) (n : ℕ) (a b c : Option (List Exchange)) → (n == 0) ≡ false → IsReading bytes a b
    → AfterRead {E = Failed} (Ok n) buffer b c → IsReading (bytes ++ take n buffer) a c
reading-more bytes buffer n a b c some r read = record {
  told = λ server written es h. subst (λ v. IsTold (es ++ made server written (bytes ++ take n buffer) (v && not (length buffer == 0)) false ∷ []) c) some
      (read es (made server written bytes false false) (r.told server written es h));
}

-- ---- the end of an answer

-- an exchange without a fault says what its bytes do
says-broken : (bytes : List ℕ) (ended : Bool) (server : ℕ) (written : List ℕ) → HasNoResponse bytes → Says (made server written bytes ended false) said.Broken
says-broken bytes ended server written h = (refl, h)

pub received-broken : (bytes : List ℕ) (a b : Option (List Exchange)) → IsReading bytes a b → AreNeeded bytes → IsBroken bytes → IsReceived a b said.Broken
received-broken bytes a b r needed broken = record {
  bytes = bytes;
  ended = false;
  failed = false;
  says = λ server written. says-broken bytes false server written (no_response-broken bytes broken);
  needed = needed;
  stopped = inr (inr (refl, refl, inr broken));
  told = r.told;
}

-- a read of nothing adds nothing
nothing-more : (bytes buffer : List ℕ) (a b c : Option (List Exchange)) → 0 < length buffer → IsReading bytes a b → AfterRead {E = Failed} (Ok 0) buffer b c
    → (server : ℕ) (written : List ℕ) → Turns (made server written [] false false) (made server written bytes true false) a c
nothing-more bytes buffer a b c room r read server written es h =
    let some : (length buffer == 0) ≡ false = ne_eqb (length buffer) 0 (λ e. omega (arith, room, e)) in
    subst (λ v. IsTold (es ++ made server written v true false ∷ []) c) (append-nil bytes)
    (subst (λ v. IsTold (es ++ made server written (bytes ++ []) (not v) false ∷ []) c) some (read es (made server written bytes false false) (r.told server written es h)))

pub received-end : (bytes buffer : List ℕ) (a b c : Option (List Exchange)) → 0 < length buffer → IsReading bytes a b → AfterRead {E = Failed} (Ok 0) buffer b c
    → AreNeeded bytes → ¬ (IsSettled bytes) → IsReceived a c said.Broken
received-end bytes buffer a b c room r read needed awaited = record {
  bytes = bytes;
  ended = true;
  failed = false;
  says = λ server written. says-broken bytes true server written (no_response-unsettled bytes awaited);
  needed = needed;
  stopped = inr (inl (refl, refl, awaited));
  told = nothing-more bytes buffer a b c room r read;
}

pub received-fault : (bytes buffer : List ℕ) (error : Failed) (a b c : Option (List Exchange)) → IsReading bytes a b → AfterRead (Err error) buffer b c
    → AreNeeded bytes → ¬ (IsSettled bytes) → IsReceived a c said.Failed
received-fault bytes buffer error a b c r read needed awaited = record {
  bytes = bytes;
  ended = false;
  failed = true;
  says = λ server written. refl;
  needed = needed;
  stopped = inl (refl, refl, awaited);
  told = λ server written es h. read es (made server written bytes false false) (r.told server written es h);
}

pub head-received : (bytes : List ℕ) (status size : ℕ) (a b : Option (List Exchange)) → IsReading bytes a b → AreNeeded bytes → IsHeadOf bytes status (length bytes) size
    → IsHeadReceived a b status size
head-received bytes status size a b r needed head = record { bytes = bytes; head = head; needed = needed; told = r.told }

-- ---- the body

-- the body was read up to here
pub record IsReadingBody (bytes : List ℕ) (before now : Option (List Exchange)) : Type 0 where
  pub told : (server : ℕ) (written head : List ℕ) → Turns (made server written head false false) (made server written (head ++ bytes) false false) before now

pub body-start : (told : Option (List Exchange)) → IsReadingBody [] told told
body-start told = record { told = λ server written head es h. subst (λ v. IsTold (es ++ made server written v false false ∷ []) told) (sym (append-nil head)) h }

pub body-more : (bytes buffer : List ℕ) (n : ℕ) (a b c : Option (List Exchange)) → (n == 0) ≡ false → IsReadingBody bytes a b
    → AfterRead {E = Failed} (Ok n) buffer b c → IsReadingBody (bytes ++ take n buffer) a c
body-more bytes buffer n a b c some r read = record {
  told = λ server written head es h. subst (λ v. IsTold (es ++ made server written v false false ∷ []) c) (append_assoc head bytes (take n buffer))
      (subst (λ v. IsTold (es ++ made server written ((head ++ bytes) ++ take n buffer) (v && not (length buffer == 0)) false ∷ []) c) some
      (read es (made server written (head ++ bytes) false false) (r.told server written head es h)));
}

pub body-ends : (status size : ℕ) (bytes buffer : List ℕ) (a b c : Option (List Exchange)) → 0 < length buffer → length bytes < size → IsReadingBody bytes a b
    → AfterRead {E = Failed} (Ok 0) buffer b c → IsBodyReceived status size a c said.Broken
body-ends status size bytes buffer a b c room few r read =
    let some : (length buffer == 0) ≡ false = ne_eqb (length buffer) 0 (λ e. omega (arith, room, e)) in
    record {
      bytes = bytes;
      ended = true;
      failed = false;
      read = (few, refl, refl);
      told = λ server written head es h. subst (λ v. IsTold (es ++ made server written v true false ∷ []) c) (append-nil (head ++ bytes))
          (subst (λ v. IsTold (es ++ made server written ((head ++ bytes) ++ []) (not v) false ∷ []) c) some
          (read es (made server written (head ++ bytes) false false) (r.told server written head es h)));
    }

pub body-fails : (status size : ℕ) (bytes buffer : List ℕ) (error : Failed) (a b c : Option (List Exchange)) → length bytes < size → IsReadingBody bytes a b
    → AfterRead (Err error) buffer b c → IsBodyReceived status size a c said.Failed
body-fails status size bytes buffer error a b c few r read = record {
  bytes = bytes;
  ended = false;
  failed = true;
  read = (few, refl, refl);
  told = λ server written head es h. read es (made server written (head ++ bytes) false false) (r.told server written head es h);
}

pub body-done : (status size : ℕ) (bytes : List ℕ) (a b : Option (List Exchange)) → length bytes ≡ size → IsReadingBody bytes a b
    → IsBodyReceived status size a b (said.Answered (record { status = status; body = bytes }))
body-done status size bytes a b all r = record {
  bytes = bytes;
  ended = false;
  failed = false;
  read = (all, refl, refl, refl);
  told = r.told;
}

-- ---- by what a read gave

pub reading-on : (room : ℕ) (old new : List ℕ) (a b c : Option (List Exchange)) → IsReading old a b → HasMore room old new b c → IsReading new a c
reading-on room old new a b c r m = subst (λ v. IsReading v a c) (sym m.added) (reading-more old m.buffer m.count a b c m.some r m.told)

pub body-on : (room : ℕ) (old new : List ℕ) (a b c : Option (List Exchange)) → IsReadingBody old a b → HasMore room old new b c → IsReadingBody new a c
body-on room old new a b c r m = subst (λ v. IsReadingBody v a c) (sym m.added) (body-more old m.buffer m.count a b c m.some r m.told)

pub longer : (room : ℕ) (old new : List ℕ) (a b : Option (List Exchange)) → HasMore room old new a b → (length old < length new) × (length new ≤ length old + room)
longer room old new a b m =
    let size : length new ≡ length old + length (take m.count m.buffer) = ap length m.added ∙ length-append old (take m.count m.buffer) in
    (omega (arith, size, m.grows), omega (arith, size, m.fits))

pub head_ends : (old new : List ℕ) (a b c : Option (List Exchange)) → IsReading old a b → AreNeeded old → IsBefore old → HasEnded old new b c → IsReceived a c said.Broken
head_ends old new a b c r needed before m = received-end old m.buffer a b c m.some r m.told needed (before-unsettled old before)

pub head_fails : (old new : List ℕ) (a b c : Option (List Exchange)) → IsReading old a b → AreNeeded old → IsBefore old → HasFailed old new b c → IsReceived a c said.Failed
head_fails old new a b c r needed before m = received-fault old m.buffer m.error a b c r m.told needed (before-unsettled old before)

pub needed-on : (old new : List ℕ) (a b : Option (List Exchange)) → AreNeeded old → IsBefore old → HasMore 1 old new a b → AreNeeded new
needed-on old new a b needed before m = subst AreNeeded (sym m.added) (needed-more old (take m.count m.buffer) m.fits needed (before-unsettled old before))

pub head_done : (old new : List ℕ) (status size body : ℕ) (a b c : Option (List Exchange)) → IsReading old a b → AreNeeded old → IsBefore old → HasMore 1 old new b c
    → IsHeadOf new status size body → IsHeadReceived a c status body
head_done old new status size body a b c r needed before m h =
    let whole : IsHeadOf (old ++ take m.count m.buffer) status (length (old ++ take m.count m.buffer)) body = whole-head old (take m.count m.buffer) status size body m.fits before (subst (λ v. IsHeadOf v status size body) m.added h) in
    head-received new status body a c (reading-on 1 old new a b c r m) (needed-on old new b c needed before m) (subst (λ v. IsHeadOf v status (length v) body) (sym m.added) whole)

pub head_broken : (old new : List ℕ) (a b c : Option (List Exchange)) → IsReading old a b → AreNeeded old → IsBefore old → HasMore 1 old new b c → IsBroken new → IsReceived a c said.Broken
head_broken old new a b c r needed before m broken = received-broken new a c (reading-on 1 old new a b c r m) (needed-on old new b c needed before m) broken

pub body_ends : (status size : ℕ) (old new : List ℕ) (a b c : Option (List Exchange)) → length old < size → IsReadingBody old a b → HasEnded old new b c → IsBodyReceived status size a c said.Broken
body_ends status size old new a b c few r m = body-ends status size old m.buffer a b c m.some few r m.told

pub body_fails : (status size : ℕ) (old new : List ℕ) (a b c : Option (List Exchange)) → length old < size → IsReadingBody old a b → HasFailed old new b c → IsBodyReceived status size a c said.Failed
body_fails status size old new a b c few r m = body-fails status size old m.buffer m.error a b c few r m.told

-- ---- a head and its body

few_read : (status size : ℕ) (bytes : List ℕ) (ended failed : Bool) (said : Said) → IsBodyRead status size bytes ended failed said → length bytes ≤ size
few_read status size bytes ended failed said.Failed r = omega (arith, r.0)
few_read status size bytes ended failed said.Broken r = omega (arith, r.0)
few_read status size bytes ended failed (said.Answered response) r = omega (arith, r.0)

body_stopped : (head bytes : List ℕ) (status size : ℕ) (ended failed : Bool) (said : Said) → IsHeadOf head status (length head) size → IsBodyRead status size bytes ended failed said
    → IsStopped (head ++ bytes) ended failed
body_stopped head bytes status size ended failed said.Failed h r = inl (r.2, r.1, body-unsettled head bytes status size h r.0)
body_stopped head bytes status size ended failed said.Broken h r = inr (inl (r.2, r.1, body-unsettled head bytes status size h r.0))
body_stopped head bytes status size ended failed (said.Answered response) h r =
    inr (inr (r.2, r.1, inl (record { status = status; body = bytes }, body-whole head bytes status size h r.0)))

body_says : (head bytes : List ℕ) (status size : ℕ) (ended failed : Bool) (said : Said) (server : ℕ) (written : List ℕ) → IsHeadOf head status (length head) size
    → IsBodyRead status size bytes ended failed said → Says (made server written (head ++ bytes) ended failed) said
body_says head bytes status size ended failed said.Failed server written h r = r.2
body_says head bytes status size ended failed said.Broken server written h r =
    (r.2, no_response-unsettled (head ++ bytes) (body-unsettled head bytes status size h r.0))
body_says head bytes status size ended failed (said.Answered response) server written h r =
    (r.2, subst (BeginsWith (head ++ bytes)) (sym r.3) (body-whole head bytes status size h r.0))

pub received-body : (status size : ℕ) (said : Said) (a b c : Option (List Exchange)) → IsHeadReceived a b status size → IsBodyReceived status size b c said → IsReceived a c said
received-body status size said a b c h r = record {
  bytes = h.bytes ++ r.bytes;
  ended = r.ended;
  failed = r.failed;
  says = λ server written. body_says h.bytes r.bytes status size r.ended r.failed said server written h.head r.read;
  needed = body-needed h.bytes r.bytes status size h.head h.needed (few_read status size r.bytes r.ended r.failed said r.read);
  stopped = body_stopped h.bytes r.bytes status size r.ended r.failed said h.head r.read;
  told = λ server written es t. r.told server written h.bytes es (h.told server written es t);
}

-- ---- the exchange

pub conversed-unsent : (request : List ℕ) (error : Failed) (a b : Option (List Exchange)) → IsSent {E = Failed} request (Err error) a b → IsConversed request a b said.Failed
conversed-unsent request error a b s = record {
  exchange = λ server. made server (take s.0 request) [] false true;
  asked = λ server. record { to = refl; sent = inr (s.0, refl, refl, refl, refl); needed = needed-none; stopped = inl (refl, refl, unsettled-none) };
  says = λ server. refl;
  told = s.1;
}

pub conversed : (request : List ℕ) (x : ⊤) (said : Said) (a b c : Option (List Exchange)) → IsSent {E = Failed} request (Ok x) a b → IsReceived b c said → IsConversed request a c said
conversed request x said a b c s r = record {
  exchange = λ server. made server request r.bytes r.ended r.failed;
  asked = λ server. record { to = refl; sent = inl refl; needed = r.needed; stopped = r.stopped };
  says = λ server. r.says server request;
  told = λ server es h. r.told server request es (s server es h);
}

pub said-unopened : (server : ℕ) (request : List ℕ) (a b : Option (List Exchange))
    → ((es : List Exchange) → IsTold es a → IsTold (es ++ begun server true ∷ []) b) → HasSaid server request a b said.Failed
said-unopened server request a b opened = record {
  exchange = begun server true;
  asked = record { to = refl; sent = inr (0, refl, refl, refl, refl); needed = needed-none; stopped = inl (refl, refl, unsettled-none) };
  says = refl;
  told = opened;
}

pub said-conversed : (server : ℕ) (request : List ℕ) (said : Said) (a b c d : Option (List Exchange))
    → ((es : List Exchange) → IsTold es a → IsTold (es ++ begun server false ∷ []) b) → IsConversed request b c said
    → ((es : List Exchange) → IsTold es c → IsTold es d) → HasSaid server request a d said
said-conversed server request said a b c d opened x closed = record {
  exchange = x.exchange server;
  asked = x.asked server;
  says = x.says server;
  told = λ es h. closed (es ++ x.exchange server ∷ []) (x.told server es (opened es h));
}

-- ---- results

pub mapped : (P Q : Said → Type 0) (result : Result Said NoMemory) → ((said : Said) → P said → Q said) → IfOk result P → IfOk result Q
mapped P Q (Ok said) f h = f said h
mapped P Q (Err error) f h = tt

pub is_empty : (xs : List ℕ) → true ≡ (length xs == 0) → xs ≡ []
is_empty [] h = refl
is_empty (x ∷ xs) h = absurd (let nonzero : (length (x ∷ xs) == 0) ≡ false = ne_eqb (length (x ∷ xs)) 0 (λ e. omega arith) in let wrong : true ≡ false = h ∙ nonzero in cc)
