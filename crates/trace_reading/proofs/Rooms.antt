-- Room for hexadecimal digits.
use Rattle.std.proofs.Common.{◌≡◌, ℕ, suc, ◌+◌, ◌*◌, ◌^◌, ◌<◌, ◌≤◌, arith}
use Rattle.std.proofs.Math.Nat.{pow-le-pow_right, pow-suc}

-- a further hexadecimal digit after fewer than 32 of them
pub hexadecimal_room : (n i : ℕ) → n < 16 ^ i → i < 32 → n * 16 + 15 < 2 ^ 128
hexadecimal_room n i h k =
    let most : 16 ^ suc i ≤ 16 ^ 32 = pow-le-pow_right (omega arith) k in
    let next : 16 ^ suc i ≡ 16 ^ i * 16 = pow-suc 16 i in
    omega arith
