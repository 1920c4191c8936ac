-- How long a message may be.
use Rattle.std.specs.Prelude.{ℕ, ◌+◌}

-- bytes of a head, with the empty line that ends it
abbrev pub max_head : ℕ
max_head = 16384

-- headers of a head
abbrev pub max_headers : ℕ
max_headers = 64

-- bytes of a body
abbrev pub max_body : ℕ
max_body = 2097152

-- bytes of the longest message, with its head
abbrev pub longest_message : ℕ
longest_message = max_head + max_body
