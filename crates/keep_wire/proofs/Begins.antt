-- A whole head begins a message, or is refused.
use Rattle.std.proofs.Common.{◌≡◌, ℕ, ◌≤◌, true, List, drop, length, take, Some, Ok, Err, sym, ap, subst, arith, inr}
use Rattle.std.proofs.lemmas.List.{length-map, length-take}
use Rattle.httparse.specs.declared.spans.HeaderSpan.{HeaderSpan}
use Rattle.httparse.specs.declared.spans.RequestSpans.{RequestSpans}
use Rattle.httparse.specs.declared.spans.ResponseSpans.{ResponseSpans}
use Rattle.httparse.specs.Grammar.{Field, RequestHead, ResponseHead}
use Rattle.httparse.specs.Spans.{header_bytes, name_and_value, AreFieldsAt, IsRequestAt, IsRequestWithin, IsResponseAt, IsResponseWithin}
use Rattle.keep_wire.specs.declared.head.Begun.{Begun}
use Rattle.keep_wire.specs.declared.message.WireError.{WireError}
use Rattle.keep_wire.specs.declared.message.WireError.TheVariants.{ReadFault, BadHead, LengthRequired, BodyTooLong, CutBody, NoMemory}
use Rattle.keep_wire.specs.Fields.{is_framed}
use Rattle.keep_wire.specs.Messages.{Grammar, Reads, pairs_of, HasHead}
use Rattle.keep_wire.specs.Requests.{request_grammar}
use Rattle.keep_wire.specs.Replies.{response_grammar}
use Rattle.keep_wire.specs.Looks.{IsBegunBy, IsLooked}

-- a head that stands at the front of at most as many bytes as a head may have, and ends within them
pub record StandsAt {H : Type 0} (g : Grammar H) (bytes : List ℕ) (h : H) (n : ℕ) : Type 0 where
  pub reads : Reads g bytes h (drop n bytes)
  pub length_is : n ≡ length (g.print h)
  pub fits : n ≤ length bytes
  pub short : length bytes ≤ 65536
  pub few : length (g.fields h) ≤ 64

pub few-fields : (bytes : List ℕ) (spans : List HeaderSpan) (n : ℕ) (fields : List Field) → AreFieldsAt bytes spans n fields → n ≤ length spans → length spans ≡ 64 → length fields ≤ 64
few-fields bytes spans n fields at le room =
    let same = ap length at in
    omega (arith, le, room, same, length-map (take n spans) (header_bytes bytes), length-map fields name_and_value, length-take n spans)

has : {H : Type 0} (g : Grammar H) (bytes : List ℕ) (h : H) (n : ℕ) → StandsAt g bytes h n → is_framed (pairs_of g h) ≡ true → HasHead g bytes h (drop n bytes)
has g bytes h n at framed =
    let is = at.length_is in
    let fits = at.fits in
    let short = at.short in
    record { reads = at.reads; short = omega (arith, is, fits, short); few = at.few; framed = framed }

pub looked-begun : {H M : Type 0} (g : Grammar H) (make : H → List ℕ → M) (bytes : List ℕ) (h : H) (n : ℕ) (b : Begun M) → StandsAt g bytes h n → IsBegunBy g make h n (Ok b) → IsLooked g make bytes (Ok (Some b))
looked-begun g make bytes h n b at (framed, there, size, short, where_is, made) =
    let fits = at.fits in (
      omega (arith, fits, where_is),
      record { head = h; has = subst (λ (v : ℕ). HasHead g bytes h (drop v bytes)) (sym where_is) (has g bytes h n at framed); length_there = there; length_is = size; short = short; made = made },
    )

pub looked-refused : {H M : Type 0} (g : Grammar H) (make : H → List ℕ → M) (bytes : List ℕ) (h : H) (n : ℕ) (e : WireError) → StandsAt g bytes h n → IsBegunBy g make h n (Err e) → IsLooked g make bytes (Err e)
looked-refused g make bytes h n ReadFault at x = absurd x
looked-refused g make bytes h n BadHead at x = inr (inr (inr (h, drop n bytes, at.reads, x)))
looked-refused g make bytes h n LengthRequired at (framed, needed, none) = (h, drop n bytes, has g bytes h n at framed, needed, none)
looked-refused g make bytes h n (BodyTooLong m) at (framed, is, long) = (h, drop n bytes, has g bytes h n at framed, is, long)
looked-refused g make bytes h n CutBody at x = absurd x
looked-refused g make bytes h n NoMemory at x = tt

pub request_stands : (bytes : List ℕ) (spans : List HeaderSpan) (r : RequestSpans) (h : RequestHead) → length bytes ≤ 65536 → length spans ≡ 64 → IsRequestWithin bytes spans r → IsRequestAt bytes spans r h → StandsAt request_grammar bytes h r.len
request_stands bytes spans r h short room within at = record {
  reads = at.reads;
  length_is = at.len;
  fits = within.section.len_fits;
  short = short;
  few = few-fields bytes spans r.headers h.fields at.fields within.section.count_fits room;
}

pub response_stands : (bytes : List ℕ) (spans : List HeaderSpan) (r : ResponseSpans) (h : ResponseHead) → length bytes ≤ 65536 → length spans ≡ 64 → IsResponseWithin bytes spans r → IsResponseAt bytes spans r h → StandsAt response_grammar bytes h r.len
response_stands bytes spans r h short room within at = record {
  reads = at.reads;
  length_is = at.len;
  fits = within.section.len_fits;
  short = short;
  few = few-fields bytes spans r.headers h.fields at.fields within.section.count_fits room;
}
