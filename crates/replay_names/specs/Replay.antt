-- What a record of a name is, and when its answers are those of the definitions of `name`.
use Rattle.std.specs.Prelude.{ℕ, ◌+◌, ◌-◌, Bool, ◌&&◌, List, length, drop, eqb, ltb, Option, Some, None}
use Rattle.scan.specs.First.{pick}
use Rattle.scan.specs.Bytes.{part}
use Rattle.name.specs.Split.{colon_of, prefix_of}
use Rattle.name.specs.Reserved.{is_xml, is_xmlns}
use Rattle.name.specs.Declares.{declares_of, declares_number, declared_prefix}
use Rattle.replay.specs.declared.Replayed.{Replayed}
use Rattle.replay.specs.Numbers.{byte_at, two_at}
use Rattle.replay.specs.Run.{replay_each, RecordStep, agrees, differs, cut}

-- the index of the first colon, 65,535 for none
abbrev pub number_of_colon : Option ℕ → ℕ
number_of_colon (Some at) = at
number_of_colon None = 65535

abbrev pub colon_number : List ℕ → ℕ
colon_number name = number_of_colon (colon_of name)

-- where the declared prefix starts, 0 for none
unfoldable pub start_number : List ℕ → ℕ
start_number name = pick (eqb (declares_number (declares_of name)) 2) (length name - length (declared_prefix name)) 0

-- whether the part before the colon is `xml`, and `xmlns`
unfoldable pub xml_number : List ℕ → ℕ
xml_number name = pick (is_xml (prefix_of name)) 1 0

unfoldable pub xmlns_number : List ℕ → ℕ
xmlns_number name = pick (is_xmlns (prefix_of name)) 1 0

-- the seven recorded bytes are the answers to the name
unfoldable pub name_agrees : (name recorded : List ℕ) → Bool
name_agrees name recorded =
    eqb (two_at recorded 0) (colon_number name)
    && (eqb (byte_at recorded 2) (declares_number (declares_of name))
    && (eqb (two_at recorded 3) (start_number name)
    && (eqb (byte_at recorded 5) (xml_number name)
    && eqb (byte_at recorded 6) (xmlns_number name))))

-- the record at the front: the name's length in two bytes, the name, seven bytes of answers
unfoldable pub name_record_of : List ℕ → RecordStep
name_record_of rest =
    pick (ltb (length rest) 9) cut
    (pick (ltb (length rest - 9) (two_at rest 0)) cut
    (pick (name_agrees (part rest 2 (2 + two_at rest 0)) (drop (2 + two_at rest 0) rest)) (agrees (9 + two_at rest 0) 0 0) differs))

unfoldable pub names_replayed : List ℕ → Replayed
names_replayed s = replay_each name_record_of s
