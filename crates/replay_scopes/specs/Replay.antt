-- What a record of a call is, and when its answer is that of the resolver's definitions.
use Rattle.std.specs.Prelude.{ℕ, ◌+◌, ◌-◌, Bool, ◌&&◌, List, length, drop, get_or, eqb, ltb, Option, Some, None}
use Rattle.scan.specs.First.{pick}
use Rattle.scan.specs.Bytes.{part}
use Rattle.replay.specs.declared.Replayed.{Replayed}
use Rattle.replay.specs.Numbers.{two_at}
use Rattle.replay.specs.Run.{RecordStep, agrees, differs, cut, replay_on}
use Rattle.scope_table.specs.Table.{fresh_of}
use Rattle.scope_table.specs.declared.NamespaceResolver.{NamespaceResolver}
use Rattle.replay_scopes.specs.Calls.{recorded_call_of, called_of}
use Rattle.replay_scopes.specs.declared.Said.{Said}
use Rattle.replay_scopes.specs.declared.Called.{Called}
use Rattle.replay_scopes.specs.declared.Lengths.{Lengths}
use Rattle.replay_scopes.specs.declared.Turn.{Turn}

-- An answer is the recorded one: its code and all five values.
unfoldable pub same_said : Said → (recorded : List ℕ) → Bool
same_said s recorded =
    eqb (two_at recorded 0) s.code
    && (eqb (two_at recorded 2) s.first
    && (eqb (two_at recorded 4) s.second
    && (eqb (two_at recorded 6) s.third
    && (eqb (two_at recorded 8) s.fourth
    && eqb (two_at recorded 10) s.fifth))))

-- Text in use, record count and level are the recorded ones.
unfoldable pub same_left : (used count level : ℕ) → (recorded : List ℕ) → Bool
same_left used count level recorded =
    eqb (two_at recorded 12) used && (eqb (two_at recorded 14) count && eqb (two_at recorded 16) level)

abbrev pub whole : (first second : ℕ) → Option Lengths
whole first second = Some (record { first = first; second = second })

-- A record: a byte for the call, two numbers, a text, a text, and nine numbers; 27 bytes and both texts.
unfoldable pub lengths_of : List ℕ → Option Lengths
lengths_of rest =
    pick (ltb (length rest) 27) None
    (pick (ltb 10 (get_or rest 0 0)) None
    (pick (ltb (length rest - 27) (two_at rest 5)) None
    (pick (ltb (length rest - 27 - two_at rest 5) (two_at rest (7 + two_at rest 5))) None
    (whole (two_at rest 5) (two_at rest (7 + two_at rest 5))))))

abbrev pub turn : RecordStep → NamespaceResolver → Turn
turn s x = record { step = s; resolver = x }

-- what a call made, held against what is recorded of it
unfoldable pub held_to : Called → (size : ℕ) → (recorded : List ℕ) → Turn
held_to m size recorded =
    turn
    (pick (same_said m.said recorded
    && same_left m.resolver.head.used m.resolver.head.count m.resolver.head.level recorded)
    (agrees size m.names m.bindings) differs)
    m.resolver

-- the call of a whole record, whose texts have n and m bytes
unfoldable pub turn_of : NamespaceResolver → (rest : List ℕ) → (n m : ℕ) → Turn
turn_of x rest n m =
    held_to
    (called_of x (recorded_call_of (get_or rest 0 0)) (two_at rest 1) (two_at rest 3) (part rest 7 (7 + n))
    (part rest (9 + n) (9 + n + m)))
    (18 + (9 + n + m)) (drop (9 + n + m) rest)

unfoldable pub turn_at : Option Lengths → NamespaceResolver → (rest : List ℕ) → Turn
turn_at (Some l) x rest = turn_of x rest l.first l.second
turn_at None x rest = turn cut x

-- the record at the front
unfoldable pub call_record_of : NamespaceResolver → (rest : List ℕ) → Turn
call_record_of x rest = turn_at (lengths_of rest) x rest

-- Each call acts on what the one before it has left.
unfoldable pub calls_replayed : List ℕ → Replayed
calls_replayed s = replay_on (λ x rest. (call_record_of x rest).step) (λ x rest. (call_record_of x rest).resolver) s fresh_of
