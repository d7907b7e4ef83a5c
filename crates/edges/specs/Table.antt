-- 01, "Both sides of the edge": P1 to P8. Each row is a whole file of the trace and all that it must give, as bytes.
use Rattle.std.specs.Prelude.{List, [], ◌∷◌, ◌++◌, ℕ, zero, suc, ◌/◌, ◌%◌, replicate}
use Rattle.text.specs.Bytes.{bytes}

-- a number in so many bytes, big-endian
unfoldable pub be : ℕ → ℕ → List ℕ
be zero n = []
be (suc k) n = be k (n / 256) ++ (n % 256 ∷ [])

-- DLT, version 1, start, latency, late-drop, first number, capacity
abbrev pub header : ℕ → ℕ → ℕ → ℕ → ℕ → List ℕ
header start latency dropping first capacity =
    bytes "DLT" ++ be 2 1 ++ be 8 start ++ be 4 latency ++ be 1 dropping ++ be 4 first ++ be 2 capacity

-- a data packet of message 0 with so many bytes; a pop, a loss report and a full ACK; an ACK2
abbrev pub sends : ℕ → ℕ → ℕ → ℕ → ℕ → List ℕ
sends now number location stamp n =
    be 1 1 ++ be 8 now ++ be 4 number ++ be 4 0 ++ be 1 location ++ be 4 stamp ++ be 2 n ++ replicate n 97

abbrev pub pops : ℕ → List ℕ
pops now = be 1 2 ++ be 8 now

abbrev pub reports : ℕ → List ℕ
reports now = be 1 3 ++ be 8 now

abbrev pub acks : ℕ → List ℕ
acks now = be 1 4 ++ be 8 now

abbrev pub acks2 : ℕ → ℕ → List ℕ
acks2 now number = be 1 5 ++ be 8 now ++ be 4 number

pub record Row : Type 0 where
  pub file : List ℕ
  pub gives : List ℕ

-- P1: the worked example
abbrev pub worked : Row
worked =
    record {
      file =
          header 0 0 1 2147483646 4
          ++ sends 1000 2147483646 3 0 10
          ++ sends 2000 0 3 1000 10
          ++ sends 3000 2147483647 3 500 10
          ++ sends 3100 0 3 1000 10
          ++ pops 4000;
      gives = bytes "1 got 2147483647 0\n2 loss 2147483647 2147483647\n3 got 1 1\n4 refused 10\n5 message 0 10 1\nend 5 1 2147483647 2\n";
    }

-- P2: RTT 18,000 from fresh: 11,000, 2,500
abbrev pub round_trip : Row
round_trip =
    record {
      file = header 0 0 0 0 2 ++ sends 0 0 3 0 0 ++ acks 0 ++ acks2 18000 1;
      gives = bytes "1 got 1 0\n2 ack 1 1 10000 1000 1 - - -\n3 rtt 11000 2500\nend 3 1 0 1\n";
    }

-- P3 to P6: mean 10,000, loss at 0: not at 20,000, at 20,001, then not at 50,001, at 50,002
abbrev pub feedback : Row
feedback =
    record {
      file = header 0 0 0 0 2 ++ sends 0 1 3 0 0 ++ reports 20000 ++ reports 20001 ++ reports 50001 ++ reports 50002;
      gives = bytes "1 loss 0 0\n2 none\n3 report 0\n4 none\n5 report 0\nend 5 0 0 2\n";
    }

-- P7 and P8: latency 100,000, FIRST at 100,000: kept at 204,999, late at 205,000
abbrev pub lateness : Row
lateness =
    record {
      file = header 0 100000 1 0 1 ++ sends 100000 0 2 100000 0 ++ pops 204999 ++ pops 205000;
      gives = bytes "1 got 1 0\n2 none\n3 late 0 1 5000\nend 3 1 1 0\n";
    }

abbrev pub table : List Row
table = worked ∷ round_trip ∷ feedback ∷ lateness ∷ []
