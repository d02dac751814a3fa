use Rattle.std.proofs.Common.{ap, sym, ◌∙◌, Some}
use Rattle.std.proofs.lemmas.Result.{MatchResult-at_ok}
use Rattle.keep_spec.specs.Digest.{bytes_of_digits}
use Rattle.keep_spec.proofs.DigestText.{decode_sized-lower, is_digest-parts, is_digest-from_parts, digest_of-none, digest_of-some}
use Rattle.keep_spec.proofs.digest.Digest.read.Goals as goal
use Rattle.keep_spec.proofs.digest.Digest.read.Goals.{then-text-ne-DIGEST_DIGITS-via-then-text-ne-DIGEST_DIGITS, then-text-ne-DIGEST_DIGITS-via-else-text-ne-DIGEST_DIGITS+then-digest_prefix_len-ne-DIGEST_DIGITS}

pub returns-then-text-ne-DIGEST_DIGITS : goal.returns-then-text-ne-DIGEST_DIGITS
returns-then-text-ne-DIGEST_DIGITS c =
    let text = c.args.text.now in
    elim c.then-text-ne-DIGEST_DIGITS.branch [
      | then-text-ne-DIGEST_DIGITS-via-then-text-ne-DIGEST_DIGITS w ↦ sym (digest_of-none text (λ h. w.if-text-ne-DIGEST_DIGITS.true (is_digest-parts text h).0))
      | then-text-ne-DIGEST_DIGITS-via-else-text-ne-DIGEST_DIGITS+then-digest_prefix_len-ne-DIGEST_DIGITS w ↦
          sym (digest_of-none text (λ h. w.if-digest_prefix_len-ne-DIGEST_DIGITS.true (w.digest_prefix_len.ensures ∙ (is_digest-parts text h).1)))
    ]

pub returns : goal.returns
returns c =
    let text = c.args.text.now in
    let digits = is_digest-from_parts text c.if-text-ne-DIGEST_DIGITS.false (sym c.digest_prefix_len.ensures ∙ c.if-digest_prefix_len-ne-DIGEST_DIGITS.false) in
    let decoded = decode_sized-lower text digits in
    let written = MatchResult-at_ok _ _ (bytes_of_digits text) decoded c.decode_to_slice.ensures.value in
    ap Some written.1 ∙ sym (digest_of-some text digits)
