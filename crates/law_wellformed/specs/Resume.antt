-- Where the next key is looked for after each answer, as one table: document 01, "Numbers and what they leave".
use Rattle.std.specs.Prelude.{ℕ, ◌+◌, List, length, ltb, None, Some, Ok, Err, Option}
use Rattle.scan.specs.First.{first_from, pick}
use Rattle.scan.specs.Bytes.{is_space, not_space, ends_key}
use Rattle.tag_step.specs.Answer.{Answer}
use Rattle.tag_step.specs.declared.Attr.TheVariants.{DoubleQ, SingleQ, Unquoted, Empty}
use Rattle.tag_step.specs.declared.AttrError.TheVariants.{ExpectedEq, ExpectedValue, UnquotedValue, ExpectedQuote, Duplicated, KeyTableFull, BadState}
use Rattle.tag_step.specs.Read.{is_at}

-- at x, or ended where x is the length
unfoldable pub from_or_ended : List ℕ → ℕ → Option ℕ
from_or_ended s x = pick (ltb x (length s)) (Some x) None

-- at the first whitespace at or after x, or ended where there is none
unfoldable pub from_whitespace : List ℕ → ℕ → Option ℕ
from_whitespace s x = from_or_ended s (first_from is_space s x)

-- where the `=` of the key that begins at `start` would stand: the first byte after the key that is no whitespace
unfoldable pub after_key : List ℕ → ℕ → ℕ
after_key s start = first_from not_space s (first_from ends_key s (start + 1))

-- after 5: from the `=` of a key that has one; a bare one as Empty
unfoldable pub after_duplicate : List ℕ → ℕ → Option ℕ
after_duplicate s x = pick (is_at s 61 x) (from_whitespace s x) (from_or_ended s x)

unfoldable pub resumes_at : List ℕ → Answer → Option ℕ
-- the end: iteration stays ended
resumes_at s None = None
-- D, S: directly after the closing quote
resumes_at s (Some (Ok (DoubleQ key value))) = Some (value.end + 1)
resumes_at s (Some (Ok (SingleQ key value))) = Some (value.end + 1)
-- U: where the value ends, at whitespace or the end
resumes_at s (Some (Ok (Unquoted key value))) = Some value.end
-- Empty: at what follows the key, or ended
resumes_at s (Some (Ok (Empty key))) = from_or_ended s (first_from not_space s key.end)
-- 1: at pos, or ended if pos is the length
resumes_at s (Some (Err (ExpectedEq pos))) = from_or_ended s pos
-- 2: ended
resumes_at s (Some (Err (ExpectedValue len))) = None
-- 3: at the first whitespace at or after pos
resumes_at s (Some (Err (UnquotedValue pos))) = from_whitespace s pos
-- 4: ended
resumes_at s (Some (Err (ExpectedQuote len quote))) = None
-- 5: at the first whitespace at or after the `=`, also inside the value; after a bare key at what follows it
resumes_at s (Some (Err (Duplicated this earlier))) = after_duplicate s (after_key s this)
-- 6, 7: ended
resumes_at s (Some (Err (KeyTableFull this))) = None
resumes_at s (Some (Err BadState)) = None
