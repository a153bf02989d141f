-- The attributes of a start tag by XML 1.0: productions 40, 41, 25 and 10, with 3 and 66 to 68 where these lead. A body
-- is data, its parts as the productions name them, with its text and the facts that make each part one of its
-- production. Bytes stand for characters: no byte of a longer character is one that a production names. That a character
-- is a Char (production 2) is not asked, so that there are more bodies here.
use Rattle.std.specs.Prelude.{ℕ, ◌≡◌, Bool, true, false, not, ◌&&◌, ◌||◌, List, [], ◌∷◌, ◌++◌, eqb}
use Prim.Native.String.{String}
use Rattle.scan.specs.Bytes.{is_space, bytes}

-- Runs of bytes.

-- each byte of a run passes
unfoldable pub each : (ℕ → Bool) → List ℕ → Bool
each p [] = true
each p (x ∷ xs) = p x && each p xs

-- there is at least one, and each passes
unfoldable pub some : (ℕ → Bool) → List ℕ → Bool
some p [] = false
some p (x ∷ xs) = p x && each p xs

unfoldable pub is_in : List ℕ → ℕ → Bool
is_in [] b = false
is_in (x ∷ xs) b = eqb b x || is_in xs b

-- one of the characters of a text
unfoldable pub one_of : String → ℕ → Bool
one_of t b = is_in (bytes t) b

-- A Name is taken as any nonempty run without whitespace, `=`, quotes, `<`, `>`, `/`, `&`.
unfoldable pub name_byte : ℕ → Bool
name_byte b = not (is_space b || one_of "=\"'<>/&" b)

unfoldable pub digit : ℕ → Bool
digit = one_of "0123456789"

unfoldable pub hex_digit : ℕ → Bool
hex_digit = one_of "0123456789abcdefABCDEF"

-- 10: AttValue ::= '"' ([^<&"] | Reference)* '"' | "'" ([^<&'] | Reference)* "'"

pub data Quote : Type 0 where
  double : Quote
  single : Quote

unfoldable pub quote_byte : Quote → ℕ
quote_byte double = 34
quote_byte single = 39

-- [^<&"] or [^<&']
unfoldable pub value_byte : Quote → ℕ → Bool
value_byte q b = not (one_of "<&" b || eqb b (quote_byte q))

-- 67: Reference ::= EntityRef | CharRef
-- 68: EntityRef ::= '&' Name ';'
-- 66: CharRef ::= '&#' [0-9]+ ';' | '&#x' [0-9a-fA-F]+ ';'
pub data Piece : Type 0 where
  byte : ℕ → Piece
  entity : List ℕ → Piece
  decimal : List ℕ → Piece
  hex : List ℕ → Piece

unfoldable pub piece_text : Piece → List ℕ
piece_text (byte b) = b ∷ []
piece_text (entity name) = bytes "&" ++ (name ++ bytes ";")
piece_text (decimal ds) = bytes "&#" ++ (ds ++ bytes ";")
piece_text (hex ds) = bytes "&#x" ++ (ds ++ bytes ";")

unfoldable pub is_piece : Quote → Piece → Bool
is_piece q (byte b) = value_byte q b
is_piece q (entity name) = some name_byte name
is_piece q (decimal ds) = some digit ds
is_piece q (hex ds) = some hex_digit ds

unfoldable pub value_text : List Piece → List ℕ
value_text [] = []
value_text (x ∷ xs) = piece_text x ++ value_text xs

unfoldable pub are_pieces : Quote → List Piece → Bool
are_pieces q [] = true
are_pieces q (x ∷ xs) = is_piece q x && are_pieces q xs

-- what stands between the quotes
pub record IsValue (q : Quote) (v : List ℕ) : Type 0 where
  pub pieces : List Piece
  pub are : are_pieces q pieces ≡ true
  pub text : value_text pieces ≡ v

-- 41: Attribute ::= Name Eq AttValue
-- 25: Eq ::= S? '=' S?
-- and before it the S of 40

pub record Attribute : Type 0 where
  pub before : List ℕ
  pub name : List ℕ
  pub before_eq : List ℕ
  pub after_eq : List ℕ
  pub quote : Quote
  pub value : List ℕ

-- its text, and then `rest`
unfoldable pub attribute_then : Attribute → List ℕ → List ℕ
attribute_then a rest =
    a.before ++ (a.name ++ (a.before_eq ++ (61 ∷ (a.after_eq ++ (quote_byte a.quote ∷ (a.value ++ (quote_byte a.quote ∷ rest)))))))

-- each part is of its production, the value being one of Val
pub record AttributeBy (Val : Quote → List ℕ → Type 0) (a : Attribute) : Type 0 where
  pub before : some is_space a.before ≡ true
  pub name : some name_byte a.name ≡ true
  pub before_eq : each is_space a.before_eq ≡ true
  pub after_eq : each is_space a.after_eq ≡ true
  pub value : Val a.quote a.value

-- 40: STag ::= '<' Name (S Attribute)* S? '>', of which the body is (S Attribute)* S?

pub record Body : Type 0 where
  pub attributes : List Attribute
  pub after : List ℕ

unfoldable pub attributes_then : List Attribute → List ℕ → List ℕ
attributes_then [] rest = rest
attributes_then (a ∷ more) rest = attribute_then a (attributes_then more rest)

unfoldable pub body_text : Body → List ℕ
body_text b = attributes_then b.attributes b.after

unfoldable pub AttributesBy : (Quote → List ℕ → Type 0) → List Attribute → Type 0
AttributesBy Val [] = Unit {0}
AttributesBy Val (a ∷ more) = AttributeBy Val a × AttributesBy Val more

pub record BodyBy (Val : Quote → List ℕ → Type 0) (b : Body) : Type 0 where
  pub attributes : AttributesBy Val b.attributes
  pub after : each is_space b.after ≡ true

-- a body of productions 40, 41, 25 and 10
abbrev pub WellFormed : Body → Type 0
WellFormed = BodyBy IsValue

-- What reading asks is less: a value only lacks its own quote, and no attribute needs whitespace before it, neither the
-- first one nor one after a value.

unfoldable pub Lacks : Quote → List ℕ → Type 0
Lacks q v = each (λ b. not (eqb b (quote_byte q))) v ≡ true

pub record Quoted (a : Attribute) : Type 0 where
  pub before : each is_space a.before ≡ true
  pub name : some name_byte a.name ≡ true
  pub before_eq : each is_space a.before_eq ≡ true
  pub after_eq : each is_space a.after_eq ≡ true
  pub value : Lacks a.quote a.value

unfoldable pub AllQuoted : List Attribute → Type 0
AllQuoted [] = Unit {0}
AllQuoted (a ∷ more) = Quoted a × AllQuoted more

pub record QuotedBody (b : Body) : Type 0 where
  pub attributes : AllQuoted b.attributes
  pub after : each is_space b.after ≡ true

-- some bytes that are the text of a well-formed one
pub record HasBody (s : List ℕ) : Type 0 where
  pub body : Body
  pub fine : WellFormed body
  pub text : body_text body ≡ s

-- Names.

-- no attribute has the name n
unfoldable pub Absent : List ℕ → List Attribute → Type 0
Absent n [] = Unit {0}
Absent n (a ∷ more) = (n ≡ a.name → ⊥) × Absent n more

unfoldable pub Distinct : List Attribute → Type 0
Distinct [] = Unit {0}
Distinct (a ∷ more) = Absent a.name more × Distinct more
