-- the phrases of the statuses that the host answers
use Rattle.std.specs.Prelude.{◌++◌, decimal, length, ℕ, List, [], codes, Bool, ◌||◌, ◌==◌, if◌then◌else◌}

abbrev pub is_answer_status : ℕ → Bool
is_answer_status n =
    n == 200 || n == 201 || n == 400 || n == 401 || n == 403 || n == 404 || n == 405 || n == 409
    || n == 411 || n == 413 || n == 431 || n == 500 || n == 501 || n == 503 || n == 507

abbrev pub phrase : ℕ → List ℕ
phrase n =
    if n == 200 then codes "OK" else (
    if n == 201 then codes "Created" else (
    if n == 400 then codes "Bad Request" else (
    if n == 401 then codes "Unauthorized" else (
    if n == 403 then codes "Forbidden" else (
    if n == 404 then codes "Not Found" else (
    if n == 405 then codes "Method Not Allowed" else (
    if n == 409 then codes "Conflict" else (
    if n == 411 then codes "Length Required" else (
    if n == 413 then codes "Payload Too Large" else (
    if n == 431 then codes "Request Header Fields Too Large" else (
    if n == 500 then codes "Internal Server Error" else (
    if n == 501 then codes "Not Implemented" else (
    if n == 503 then codes "Service Unavailable" else (
    if n == 507 then codes "Insufficient Storage" else []))))))))))))))

-- the line of a status
abbrev pub closing_line : Bool → List ℕ
closing_line closing = if closing then codes "Connection: close\r\n" else []

abbrev pub head_text : ℕ → ℕ → Bool → List ℕ
head_text n size closing =
    codes "HTTP/1.1 " ++ (decimal n ++ (codes " " ++ (phrase n ++ (codes "\r\nContent-Type: application/json\r\nContent-Length: "
    ++ (decimal size ++ (codes "\r\n" ++ (closing_line closing ++ codes "\r\n")))))))

abbrev pub response_text : ℕ → List ℕ → Bool → List ℕ
response_text n body closing = head_text n (length body) closing ++ body

-- the body that says that memory is wanting
abbrev pub memory_text : List ℕ
memory_text = codes "{\"error\":\"memory\"}"
